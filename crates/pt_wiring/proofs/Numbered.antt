-- Numbers that tell of each element what came before it.
use Rattle.std.proofs.Common.{◌≡◌, ℕ, zero, suc, ◌<◌, List, [], ◌∷◌, ◌++◌, Option, Some, length, take, get_or, refl, sym, ap, ap₂, ◌∙◌, subst, arith, length-append, inl, inr}
use Rattle.std.specs.Prelude.{slice_get}
use Rattle.std.proofs.Math.ListN.{get_or-append}
use Rattle.std.proofs.Math.Seq.{get_or-append_seam, take-append_seam}
use Rattle.std.proofs.lemmas.List.{take-append-le}
use Rattle.std.proofs.lemmas.Bool.{cases_order}

slice-left : {A : Type 0} (xs ys : List A) (i : ℕ) → i < length xs → slice_get (xs ++ ys) i ≡ slice_get xs i
slice-left [] ys i h = absurd (omega (arith, h))
slice-left (x ∷ xs) ys zero h = refl
slice-left (x ∷ xs) ys (suc i) h = slice-left xs ys i (omega (arith, h))

slice-seam : {A : Type 0} (xs : List A) (y : A) → slice_get (xs ++ y ∷ []) (length xs) ≡ Some y
slice-seam [] y = refl
slice-seam (x ∷ xs) y = slice-seam xs y

-- one element more, with its number
pub each-more : {A : Type 0} (f : List A → Option A → ℕ) (xs : List A) (x : A) (numbers : List ℕ) (n : ℕ) → length numbers ≡ length xs →
    ((i : ℕ) → i < length xs → get_or numbers i 0 ≡ f (take i xs) (slice_get xs i)) → n ≡ f xs (Some x) →
    (i : ℕ) → i < length (xs ++ x ∷ []) → get_or (numbers ++ n ∷ []) i 0 ≡ f (take i (xs ++ x ∷ [])) (slice_get (xs ++ x ∷ []) i)
each-more f xs x numbers n long each is i h = elim (cases_order i (length xs)) [ inl same ↦ (let P : ℕ → Type 0 = λ j. get_or (numbers ++ n ∷ []) j 0 ≡ f (take j (xs ++ x ∷ [])) (slice_get (xs ++ x ∷ []) j) in subst P (sym same) last) | inr other ↦ elim other [ inl below ↦ before below | inr above ↦ absurd (omega (arith, above, h, length-append xs (x ∷ []))) ] ]
  where
    last : get_or (numbers ++ n ∷ []) (length xs) 0 ≡ f (take (length xs) (xs ++ x ∷ [])) (slice_get (xs ++ x ∷ []) (length xs))
    last = ap (λ j. get_or (numbers ++ n ∷ []) j 0) (sym long) ∙ get_or-append_seam numbers n [] 0 ∙ is ∙ ap₂ (λ ys y. f ys y) (sym (take-append_seam xs (x ∷ []))) (sym (slice-seam xs x))

    before : i < length xs → get_or (numbers ++ n ∷ []) i 0 ≡ f (take i (xs ++ x ∷ [])) (slice_get (xs ++ x ∷ []) i)
    before below = get_or-append numbers (n ∷ []) 0 i (omega (arith, below, long)) ∙ each i below ∙ ap₂ (λ ys y. f ys y) (sym (take-append-le i xs (x ∷ []) (omega (arith, below)))) (sym (slice-left xs (x ∷ []) i below))
