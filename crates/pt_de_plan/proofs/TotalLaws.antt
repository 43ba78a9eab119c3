-- Sums of the first of some numbers.
use Rattle.std.proofs.Common.{◌≡◌, ℕ, zero, suc, ◌+◌, ◌<◌, ◌≤◌, List, [], ◌∷◌, length, get_or, take, ap, ◌∙◌, arith}
use Rattle.pt_meaning.specs.Running.{total}

total-next : (ns : List ℕ) (k : ℕ) → k < length ns → total (take (suc k) ns) ≡ total (take k ns) + get_or ns k 0
total-next [] k h = absurd (omega (arith, h))
total-next (n ∷ ns) zero h = omega arith
total-next (n ∷ ns) (suc k) h = omega (arith, total-next ns k (omega (arith, h)))

-- one number more
pub total-more : (ns : List ℕ) (k : ℕ) → k < length ns → total (take (k + 1) ns) ≡ total (take k ns) + get_or ns k 0
total-more ns k h = let e : k + 1 ≡ suc k = omega arith in ap (λ n. total (take n ns)) e ∙ total-next ns k h

-- no more than all
pub total-all : (ns : List ℕ) (k : ℕ) → total (take k ns) ≤ total ns
total-all [] zero = omega arith
total-all [] (suc k) = omega arith
total-all (n ∷ ns) zero = omega arith
total-all (n ∷ ns) (suc k) = omega (arith, total-all ns k)

-- from the sum of the numbers before it on, a number is within what has room for all
pub offset-within : (ns : List ℕ) (k first most : ℕ) → k < length ns → first ≡ total (take k ns) → total ns ≤ most → first + get_or ns k 0 ≤ most
offset-within ns k first most h o room = omega (arith, o, room, total-more ns k h, total-all ns (k + 1))
