-- Elements of lists, by their numbers.
use Rattle.std.proofs.Common.{◌≡◌, ℕ, zero, suc, ◌<◌, List, [], ◌∷◌, ◌++◌, length, get_or, refl, ap, subst, arith}
use Rattle.std.specs.Prelude.{Some, slice_get}
use Rattle.std.specs.List.{AllZip}
use Rattle.std.proofs.lemmas.Option.{none-some, slice_get_read}

-- there is one of each number below the length
pub read : {A : Type 0} (xs : List A) (k : ℕ) → k < length xs → (x : A) × (slice_get xs k ≡ Some x)
read [] k h = absurd (omega (arith, h))
read (x ∷ xs) zero h = (x, refl)
read (x ∷ xs) (suc k) h = read xs k (omega (arith, h))

-- one more at the end
pub get-last : {A : Type 0} (xs : List A) (y : A) → slice_get (xs ++ y ∷ []) (length xs) ≡ Some y
get-last [] y = refl
get-last (x ∷ xs) y = get-last xs y

pub get-before : {A : Type 0} (xs : List A) (y : A) (k : ℕ) (x : A) → slice_get xs k ≡ Some x → slice_get (xs ++ y ∷ []) k ≡ Some x
get-before [] y k x at = absurd (none-some x at)
get-before (z ∷ xs) y zero x at = at
get-before (z ∷ xs) y (suc k) x at = get-before xs y k x at

pub zip-length : {A B : Type 0} (R : A → B → Type 0) (xs : List A) (ys : List B) → AllZip R xs ys → length xs ≡ length ys
zip-length R [] [] h = refl
zip-length R [] (y ∷ ys) h = absurd h
zip-length R (x ∷ xs) [] h = absurd h
zip-length R (x ∷ xs) (y ∷ ys) h = ap (λ n. suc n) (zip-length R xs ys h.1)

-- what is read of a list in a loop is an element of it
pub read-at : {A : Type 0} (xs ys : List A) (k : ℕ) (x : A) → ys ≡ xs → k < length ys → x ≡ get_or ys k x → slice_get xs k ≡ Some x
read-at {A = A} xs ys k x same short is = subst (λ (zs : List A). slice_get zs k ≡ Some x) same (slice_get_read ys (length ys) k x refl short is)
