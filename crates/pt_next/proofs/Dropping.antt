-- What is left of a list from a place on.
use Rattle.std.proofs.Common.{◌≡◌, ℕ, zero, suc, ◌+◌, ◌<◌, ◌≤◌, List, [], ◌∷◌, length, drop, get_or, refl, sym, ap, ◌∙◌, arith}

pub drop-more : {A : Type 0} (xs : List A) (k : ℕ) (d : A) → k < length xs → d ≡ get_or xs k d → drop k xs ≡ d ∷ drop (k + 1) xs
drop-more [] k d l e = absurd (omega (arith, l))
drop-more (x ∷ xs) zero d l e = ap (λ v. v ∷ xs) (sym e)
drop-more (x ∷ xs) (suc k) d l e = let s : suc k + 1 ≡ suc (k + 1) = omega arith in drop-more xs k d (omega (arith, l)) e ∙ ap (λ n. d ∷ drop n (x ∷ xs)) (sym s)

pub drop-all : {A : Type 0} (xs : List A) (k : ℕ) → length xs ≤ k → drop k xs ≡ []
drop-all [] zero l = refl
drop-all [] (suc k) l = refl
drop-all (x ∷ xs) zero l = absurd (omega (arith, l))
drop-all (x ∷ xs) (suc k) l = drop-all xs k (omega (arith, l))
