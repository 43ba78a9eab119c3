-- The times of refinements, by number.
use Rattle.std.proofs.Common.{◌≡◌, ℕ, zero, suc, ◌<◌, ◌≤◌, List, [], ◌∷◌, length, get_or, set, refl, ap, arith}
use Rattle.pt_meaning.specs.Streams.{change_at}
use Rattle.pt_meaning.specs.Modal.{Stay, lag_of}

pub lag-there : (stays : List Stay) (i : ℕ) (r : Stay) → i < length stays → r ≡ get_or stays i r → r.lag ≡ lag_of stays i
lag-there [] i r short is = absurd (omega (arith, short))
lag-there (q ∷ stays) zero r short is = ap (λ (p : Stay). p.lag) is
lag-there (q ∷ stays) (suc i) r short is = lag-there stays i r (omega (arith, short)) is

pub lag-past : (stays : List Stay) (i : ℕ) → length stays ≤ i → 0 ≡ lag_of stays i
lag-past [] i past = refl
lag-past (q ∷ stays) zero past = absurd (omega (arith, past))
lag-past (q ∷ stays) (suc i) past = lag-past stays i (omega (arith, past))

-- one that is there is changed by what it is
pub change-there : {A : Type 0} (f : A → A) (xs : List A) (i : ℕ) (x : A) → i < length xs → x ≡ get_or xs i x → set xs i (f x) ≡ change_at i f xs
change-there f [] i x short is = absurd (omega (arith, short))
change-there f (y ∷ xs) zero x short is = ap (λ z. f z ∷ xs) is
change-there f (y ∷ xs) (suc i) x short is = ap (λ zs. y ∷ zs) (change-there f xs i x (omega (arith, short)) is)

pub change-past : {A : Type 0} (f : A → A) (xs : List A) (i : ℕ) → length xs ≤ i → xs ≡ change_at i f xs
change-past f [] i past = refl
change-past f (y ∷ xs) zero past = absurd (omega (arith, past))
change-past f (y ∷ xs) (suc i) past = ap (λ zs. y ∷ zs) (change-past f xs i (omega (arith, past)))

-- one change after another
pub changed-twice : {A : Type 0} (f g : A → A) (i : ℕ) (xs : List A) → change_at i (λ x. g (f x)) xs ≡ change_at i g (change_at i f xs)
changed-twice f g i [] = refl
changed-twice f g zero (y ∷ xs) = refl
changed-twice f g (suc i) (y ∷ xs) = ap (λ zs. y ∷ zs) (changed-twice f g i xs)
