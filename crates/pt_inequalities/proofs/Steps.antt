-- Lists that loops make, one element after the other.
use Rattle.std.proofs.Common.{◌≡◌, ℕ, zero, suc, ◌+◌, ◌<◌, ◌≤◌, List, [], ◌∷◌, ◌++◌, length, map, drop, get_or, Some, refl, sym, ap, ◌∙◌, append_assoc, arith}
use Rattle.std.specs.Prelude.{slice_get, option_map}
use Rattle.pt_inequalities.specs.Frames.{first, behind}

pub some-same : {A : Type 0} (x y : A) → Some x ≡ Some y → x ≡ y
some-same x y e = cc

pub none-more : (i : ℕ) → i ≡ i + 0
none-more i = omega arith

pub from-next : (i j : ℕ) → suc i + j ≡ i + suc j
from-next i j = omega arith

pub one-more : (i : ℕ) → suc i ≡ i + 1
one-more i = omega arith

pub append-none : {A : Type 0} (xs : List A) → xs ++ [] ≡ xs
append-none [] = refl
append-none (x ∷ xs) = ap (λ ys. x ∷ ys) (append-none xs)

pub drop-one : {A : Type 0} (xs : List A) (i : ℕ) (x : A) → i < length xs → x ≡ get_or xs i x → drop i xs ≡ x ∷ drop (i + 1) xs
drop-one [] i x short is = absurd (omega arith)
drop-one (y ∷ ys) zero x short is = ap (λ z. z ∷ ys) (sym is)
drop-one (y ∷ ys) (suc i) x short is = drop-one ys i x (omega arith) is ∙ ap (λ n. x ∷ drop n (y ∷ ys)) (let e : suc (i + 1) ≡ suc i + 1 = omega arith in e)

pub drop-past : {A : Type 0} (xs : List A) (i : ℕ) → length xs ≤ i → drop i xs ≡ []
drop-past [] zero h = refl
drop-past [] (suc i) h = refl
drop-past (x ∷ xs) zero h = absurd (omega arith)
drop-past (x ∷ xs) (suc i) h = drop-past xs i (omega arith)

nothing : {A : Type 0} (xs : List A) (i : ℕ) → xs ≡ [] → drop i xs ≡ []
nothing xs i e = drop-past xs i (omega (arith, ap length e))

pub first-drop : {A B : Type 0} (f : A → B) (xs : List A) (i : ℕ) → first (map f (drop i xs)) ≡ option_map f (slice_get xs i)
first-drop f [] zero = refl
first-drop f [] (suc i) = refl
first-drop f (x ∷ xs) zero = refl
first-drop f (x ∷ xs) (suc i) = first-drop f xs i

pub behind-drop : {A B : Type 0} (f : A → B) (xs : List A) (i : ℕ) → behind (map f (drop i xs)) ≡ map f (drop (i + 1) xs)
behind-drop f [] zero = refl
behind-drop f [] (suc i) = ap (map f) (sym (nothing [] (suc i + 1) refl))
behind-drop f (x ∷ xs) zero = refl
behind-drop f (x ∷ xs) (suc i) = behind-drop f xs i ∙ ap (λ n. map f (drop n (x ∷ xs))) (let e : suc (i + 1) ≡ suc i + 1 = omega arith in e)

-- what is made so far with what is left is all; one part more
pub step : {A : Type 0} (start whole out new part now next : List A) → out ++ now ≡ start ++ whole → now ≡ part ++ next → new ≡ out ++ part → new ++ next ≡ start ++ whole
step start whole out new part now next h split more = ap (λ n. n ++ next) more ∙ append_assoc out part next ∙ ap (λ n. out ++ n) (sym split) ∙ h

pub done : {A : Type 0} (start whole out rest : List A) → out ++ rest ≡ start ++ whole → rest ≡ [] → out ≡ start ++ whole
done start whole out rest h e = sym (append-none out) ∙ ap (λ r. out ++ r) (sym e) ∙ h

pub first-raw : {A : Type 0} (xs : List A) (i : ℕ) → first (drop i xs) ≡ slice_get xs i
first-raw [] zero = refl
first-raw [] (suc i) = refl
first-raw (x ∷ xs) zero = refl
first-raw (x ∷ xs) (suc i) = first-raw xs i

pub behind-raw : {A : Type 0} (xs : List A) (i : ℕ) → behind (drop i xs) ≡ drop (i + 1) xs
behind-raw [] zero = refl
behind-raw [] (suc i) = sym (nothing [] (suc i + 1) refl)
behind-raw (x ∷ xs) zero = refl
behind-raw (x ∷ xs) (suc i) = behind-raw xs i ∙ ap (λ n. drop n (x ∷ xs)) (let e : suc (i + 1) ≡ suc i + 1 = omega arith in e)

pub first-mapped : {A B : Type 0} (f : A → B) (xs : List A) (i : ℕ) → first (map f (drop i xs)) ≡ slice_get (map f xs) i
first-mapped f [] zero = refl
first-mapped f [] (suc i) = refl
first-mapped f (x ∷ xs) zero = refl
first-mapped f (x ∷ xs) (suc i) = first-mapped f xs i
