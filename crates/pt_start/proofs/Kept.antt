-- What is kept of one entity more.
use Rattle.std.proofs.Common.{◌≡◌, ℕ, zero, suc, ◌+◌, ◌<◌, ◌≤◌, List, [], ◌∷◌, ◌++◌, length, get_or, refl, sym, ap, subst, ◌∙◌, arith, inl, inr}
use Rattle.std.specs.Prelude.{Option, Some, None, slice_get}
use Rattle.std.proofs.lemmas.Bool.{cases_order}
use Rattle.std.proofs.lemmas.Option.{slice_get_past, slice_get-get_or}

slice-left : {A : Type 0} (xs ys : List A) (i : ℕ) → i < length xs → slice_get (xs ++ ys) i ≡ slice_get xs i
slice-left [] ys i h = absurd (omega (arith, h))
slice-left (x ∷ xs) ys zero h = refl
slice-left (x ∷ xs) ys (suc i) h = slice-left xs ys i (omega (arith, h))

slice-seam : {A : Type 0} (xs : List A) (y : A) → slice_get (xs ++ y ∷ []) (length xs) ≡ Some y
slice-seam [] y = refl
slice-seam (x ∷ xs) y = slice-seam xs y

slice-read : {A : Type 0} (xs : List A) (i : ℕ) (x : A) → i < length xs → x ≡ get_or xs i x → slice_get xs i ≡ Some x
slice-read xs i x short is = slice_get-get_or xs i x short ∙ ap Some (sym is)

-- one of each more
pub kept-more : {A B C : Type 0} (Is : Option A → Option B → Option C → Type 0) (es : List A) (vs : List B) (ns ms : List C) (e : A) (n : C) (i : ℕ) → i < length es → e ≡ get_or es i e → length ns ≡ i → ms ≡ ns ++ n ∷ [] → Is (Some e) (slice_get vs i) (Some n) →
    ((k : ℕ) → k < i → Is (slice_get es k) (slice_get vs k) (slice_get ns k)) → (k : ℕ) → k < i + 1 → Is (slice_get es k) (slice_get vs k) (slice_get ms k)
kept-more Is es vs ns ms e n i short is long put here each k below = elim (cases_order k i) [ inl same ↦ last same | inr other ↦ elim other [ inl less ↦ before less | inr above ↦ absurd (omega (arith, above, below)) ] ]
  where
    last : k ≡ i → Is (slice_get es k) (slice_get vs k) (slice_get ms k)
    last same =
        let at : slice_get es i ≡ Some e = slice-read es i e short is in
        let there : slice_get ms i ≡ Some n = ap (λ us. slice_get us i) put ∙ ap (λ j. slice_get (ns ++ n ∷ []) j) (sym long) ∙ slice-seam ns n in
        subst (λ j. Is (slice_get es j) (slice_get vs j) (slice_get ms j)) (sym same) (subst (λ o. Is o (slice_get vs i) (slice_get ms i)) (sym at) (subst (λ o. Is (Some e) (slice_get vs i) o) (sym there) here))

    before : k < i → Is (slice_get es k) (slice_get vs k) (slice_get ms k)
    before less =
        let there : slice_get ms k ≡ slice_get ns k = ap (λ us. slice_get us k) put ∙ slice-left ns (n ∷ []) k (omega (arith, less, long)) in
        subst (λ o. Is (slice_get es k) (slice_get vs k) o) (sym there) (each k less)

-- of what isn't there nothing is kept
pub kept-all : {A B C : Type 0} (Is : Option A → Option B → Option C → Type 0) (es : List A) (vs : List B) (ns : List C) (i : ℕ) → length es ≤ i → ((v : Option B) (n : Option C) → Is None v n) →
    ((k : ℕ) → k < i → Is (slice_get es k) (slice_get vs k) (slice_get ns k)) → (k : ℕ) → Is (slice_get es k) (slice_get vs k) (slice_get ns k)
kept-all Is es vs ns i h none each k = elim (cases_order k i) [ inl same ↦ past (omega (arith, h, same)) | inr other ↦ elim other [ inl less ↦ each k less | inr above ↦ past (omega (arith, h, above)) ] ]
  where
    past : length es ≤ k → Is (slice_get es k) (slice_get vs k) (slice_get ns k)
    past far = subst (λ o. Is o (slice_get vs k) (slice_get ns k)) (sym (slice_get_past es k far)) (none (slice_get vs k) (slice_get ns k))
