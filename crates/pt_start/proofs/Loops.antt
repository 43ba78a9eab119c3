-- Loops that put what they find behind what they have.
use Rattle.std.proofs.Common.{◌≡◌, ℕ, zero, suc, ◌+◌, ◌<◌, ◌≤◌, List, [], ◌∷◌, ◌++◌, length, get_or, drop, refl, sym, ap, ◌∙◌, append_assoc, append-nil, add-one, arith}
use Rattle.std.specs.Prelude.{Option, Some, None, option_map, slice_get}
use Rattle.std.specs.Borrow.{Bor}
use Rattle.std.specs.Slice.{IsGetResult}
use Rattle.std.proofs.lemmas.Option.{slice_get-get_or, slice_get_past}

drop-here : {A : Type 0} (xs : List A) (i : ℕ) (x : A) → i < length xs → x ≡ get_or xs i x → drop i xs ≡ x ∷ drop (suc i) xs
drop-here [] i x short is = absurd (omega arith)
drop-here (y ∷ ys) zero x short is = ap (λ z. z ∷ ys) (sym is)
drop-here (y ∷ ys) (suc i) x short is = drop-here ys i x (omega arith) is

-- one element is left and those behind it
pub drop-at : {A : Type 0} (xs : List A) (i : ℕ) (x : A) → i < length xs → x ≡ get_or xs i x → drop i xs ≡ x ∷ drop (i + 1) xs
drop-at xs i x short is = drop-here xs i x short is ∙ ap (λ k. x ∷ drop k xs) (sym (add-one i))

drop-found : {A : Type 0} (xs : List A) (i : ℕ) (x : A) → slice_get xs i ≡ Some x → drop i xs ≡ x ∷ drop (suc i) xs
drop-found [] i x at = cc
drop-found (y ∷ ys) zero x at = let same : y ≡ x = cc in ap (λ z. z ∷ ys) same
drop-found (y ∷ ys) (suc i) x at = drop-found ys i x at

pub drop-read : {A : Type 0} (xs : List A) (i : ℕ) (x : A) → slice_get xs i ≡ Some x → drop i xs ≡ x ∷ drop (i + 1) xs
drop-read xs i x at = drop-found xs i x at ∙ ap (λ k. x ∷ drop k xs) (sym (add-one i))

drop-none : {A : Type 0} (xs : List A) (i : ℕ) → slice_get xs i ≡ None → drop i xs ≡ []
drop-none [] zero at = refl
drop-none [] (suc i) at = refl
drop-none (y ∷ ys) zero at = cc
drop-none (y ∷ ys) (suc i) at = drop-none ys i at

pub drop-unread : {A : Type 0} (xs : List A) (i : ℕ) → slice_get xs i ≡ None → (drop i xs ≡ []) × (drop (i + 1) xs ≡ [])
drop-unread xs i at = (drop-none xs i at, ap (λ k. drop k xs) (add-one i) ∙ drop-later xs i (drop-none xs i at))
  where
    drop-later : {A : Type 0} (xs : List A) (i : ℕ) → drop i xs ≡ [] → drop (suc i) xs ≡ []
    drop-later [] i h = refl
    drop-later (y ∷ ys) zero h = cc
    drop-later (y ∷ ys) (suc i) h = drop-later ys i h

-- none are left
pub drop-all : {A : Type 0} (xs : List A) (i : ℕ) → length xs ≤ i → drop i xs ≡ []
drop-all [] zero h = refl
drop-all [] (suc i) h = refl
drop-all (y ∷ ys) zero h = absurd (omega arith)
drop-all (y ∷ ys) (suc i) h = drop-all ys i (omega arith)

-- one is put behind
pub put-one : {A : Type 0} (xs ys : List A) (y : A) (rest more whole : List A) → ys ≡ xs ++ y ∷ [] → rest ≡ y ∷ more → xs ++ rest ≡ whole → ys ++ more ≡ whole
put-one xs ys y rest more whole put is h = ap (λ zs. zs ++ more) put ∙ append_assoc xs (y ∷ []) more ∙ ap (λ r. xs ++ r) (sym is) ∙ h

-- none is
pub put-none : {A : Type 0} (xs rest more whole : List A) → rest ≡ more → xs ++ rest ≡ whole → xs ++ more ≡ whole
put-none xs rest more whole is h = ap (λ r. xs ++ r) (sym is) ∙ h

-- all are there
pub put-all : {A : Type 0} (xs rest whole : List A) → rest ≡ [] → xs ++ rest ≡ whole → xs ≡ whole
put-all xs rest whole is h = sym (append-nil xs) ∙ ap (λ r. xs ++ r) (sym is) ∙ h

-- what is read at a number is what stands there
pub get-is : {X : Type 0} (xs : List X) (i : ℕ) (r : Option (Bor X)) → IsGetResult xs i i r → option_map (λ (x : Bor X). x.now) r ≡ slice_get xs i
get-is xs i None h = sym (slice_get_past xs i h.3)
get-is xs i (Some x) h = sym (slice_get-get_or xs i x.now h.3.0 ∙ ap Some (sym h.1))
