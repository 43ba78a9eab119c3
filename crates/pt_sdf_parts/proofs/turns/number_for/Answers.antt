use Rattle.std.proofs.Common.{◌≡◌, ℕ, zero, suc, ◌<◌, ◌≤◌, List, [], ◌∷◌, length, get_or, sym, arith, refl}
use Rattle.pt_meaning.specs.Sdf.{number_at}
use Rattle.pt_sdf_parts.proofs.turns.number_for.Goals as goal

number-in : (xs : List ℕ) (n : ℕ) → n < length xs → number_at xs n ≡ get_or xs n 0
number-in [] n h = absurd (omega arith)
number-in (x ∷ xs) zero h = refl
number-in (x ∷ xs) (suc n) h = number-in xs n (omega arith)

number-past : (xs : List ℕ) (n : ℕ) → length xs ≤ n → number_at xs n ≡ 1
number-past [] n h = refl
number-past (x ∷ xs) zero h = absurd (omega arith)
number-past (x ∷ xs) (suc n) h = number-past xs n (omega arith)

pub returns-then-port-takes : goal.returns-then-port-takes
returns-then-port-takes c = sym (number-in c.args.takes.now c.args.port c.if-port-takes.true)

pub returns-else-port-takes : goal.returns-else-port-takes
returns-else-port-takes c = sym (number-past c.args.takes.now c.args.port c.if-port-takes.false)
