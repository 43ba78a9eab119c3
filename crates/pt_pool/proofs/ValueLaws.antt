-- Values of cells.
use Rattle.std.proofs.Common.{◌≡◌, ◌≢◌, ℕ, zero, suc, ◌+◌, ◌-◌, ◌<◌, ◌≤◌, List, [], ◌∷◌, ◌++◌, length, get_or, set, map, drop, take, slice_get, refl, sym, ap, ap₂, ◌∙◌, subst, arith, Option, Some, None, IsSome, filter_map, true, false}
use Rattle.std.proofs.lemmas.Bool.{false≢true}
use Rattle.std.specs.List.{cons_option}
use Rattle.std.proofs.lemmas.List.{get_or-set_other, get_or-set_same}
use Rattle.std.proofs.lemmas.List.Elements.{filter_map-append}
use Rattle.pt_pool.specs.Chains.{times, times_in}
use Rattle.pt_pool.specs.Values.{values_at, AreFull, AreAllFull}
use Rattle.pt_pool.proofs.Counts.{not_first, not_later}

module _ {T : Type 0} where
  -- what was written at a cell that stands nowhere in a list changes none of its values
  pub values-set : (vs : List (Option T)) (c : ℕ) (v : Option T) (cells : List ℕ) → times c cells ≡ 0 → values_at (set vs c v) cells ≡ values_at vs cells
  values-set vs c v [] none = refl
  values-set vs c v (x ∷ cells) none =
      ap₂ (λ a b. cons_option a b) (get_or-set_other vs c x v None (not_first c x cells none)) (values-set vs c v cells (not_later c x cells none))

  pub full-set : (vs : List (Option T)) (c : ℕ) (v : Option T) (cells : List ℕ) → times c cells ≡ 0 → AreFull vs cells → AreFull (set vs c v) cells
  full-set vs c v [] none full = full
  full-set vs c v (x ∷ cells) none full =
      (subst (λ a. IsSome a) (sym (get_or-set_other vs c x v None (not_first c x cells none))) full.0, full-set vs c v cells (not_later c x cells none) full.1)

  pub all_values-set : (vs : List (Option T)) (c : ℕ) (v : Option T) (lists : List (List ℕ)) → times_in c lists ≡ 0 → map (values_at (set vs c v)) lists ≡ map (values_at vs) lists
  all_values-set vs c v [] none = refl
  all_values-set vs c v (cells ∷ rest) none =
      ap₂ (λ a b. a ∷ b) (values-set vs c v cells (omega (arith, none))) (all_values-set vs c v rest (omega (arith, none)))

  pub all_full-set : (vs : List (Option T)) (c : ℕ) (v : Option T) (lists : List (List ℕ)) → times_in c lists ≡ 0 → AreAllFull vs lists → AreAllFull (set vs c v) lists
  all_full-set vs c v [] none full = full
  all_full-set vs c v (cells ∷ rest) none full =
      (full-set vs c v cells (omega (arith, none)) full.0, all_full-set vs c v rest (omega (arith, none)) full.1)

  -- one more cell with no value changes nothing
  get_or-push_none : (vs : List (Option T)) (i : ℕ) → get_or (vs ++ None ∷ []) i None ≡ get_or vs i None
  get_or-push_none [] zero = refl
  get_or-push_none [] (suc i) = refl
  get_or-push_none (v ∷ vs) zero = refl
  get_or-push_none (v ∷ vs) (suc i) = get_or-push_none vs i

  pub values-push : (vs : List (Option T)) (cells : List ℕ) → values_at (vs ++ None ∷ []) cells ≡ values_at vs cells
  values-push vs [] = refl
  values-push vs (x ∷ cells) = ap₂ (λ a b. cons_option a b) (get_or-push_none vs x) (values-push vs cells)

  full-push : (vs : List (Option T)) (cells : List ℕ) → AreFull vs cells → AreFull (vs ++ None ∷ []) cells
  full-push vs [] full = full
  full-push vs (x ∷ cells) full = (subst (λ a. IsSome a) (sym (get_or-push_none vs x)) full.0, full-push vs cells full.1)

  pub all_values-push : (vs : List (Option T)) (lists : List (List ℕ)) → map (values_at (vs ++ None ∷ [])) lists ≡ map (values_at vs) lists
  all_values-push vs [] = refl
  all_values-push vs (cells ∷ rest) = ap₂ (λ a b. a ∷ b) (values-push vs cells) (all_values-push vs rest)

  pub all_full-push : (vs : List (Option T)) (lists : List (List ℕ)) → AreAllFull vs lists → AreAllFull (vs ++ None ∷ []) lists
  all_full-push vs [] full = full
  all_full-push vs (cells ∷ rest) full = (full-push vs cells full.0, all_full-push vs rest full.1)

  -- full cells have as many values
  pub length-values : (vs : List (Option T)) (cells : List ℕ) → AreFull vs cells → length (values_at vs cells) ≡ length cells
  length-values vs [] full = refl
  length-values vs (x ∷ cells) full = go (get_or vs x None) full.0 (length-values vs cells full.1)
    where
      go : (v : Option T) → IsSome v → length (values_at vs cells) ≡ length cells → length (cons_option v (values_at vs cells)) ≡ suc (length cells)
      go None some rest = absurd (false≢true some)
      go (Some v) some rest = ap suc rest

  -- the first of some full cells has the first value
  pub first-value : (vs : List (Option T)) (x : ℕ) (cells : List ℕ) → AreFull vs (x ∷ cells) → slice_get (values_at vs (x ∷ cells)) 0 ≡ get_or vs x None
  first-value vs x cells full = go (get_or vs x None) full.0
    where
      go : (v : Option T) → IsSome v → slice_get (cons_option v (values_at vs cells)) 0 ≡ v
      go None some = absurd (false≢true some)
      go (Some v) some = refl

  pub later-values : (vs : List (Option T)) (x : ℕ) (cells : List ℕ) → AreFull vs (x ∷ cells) → drop 1 (values_at vs (x ∷ cells)) ≡ values_at vs cells
  later-values vs x cells full = go (get_or vs x None) full.0
    where
      go : (v : Option T) → IsSome v → drop 1 (cons_option v (values_at vs cells)) ≡ values_at vs cells
      go None some = absurd (false≢true some)
      go (Some v) some = refl

  pub first-taken : (vs : List (Option T)) (x : ℕ) (cells : List ℕ) → AreFull vs (x ∷ cells) → take 1 (values_at vs (x ∷ cells)) ≡ values_at vs (x ∷ [])
  first-taken vs x cells full = go (get_or vs x None) full.0
    where
      go : (v : Option T) → IsSome v → take 1 (cons_option v (values_at vs cells)) ≡ cons_option v []
      go None some = absurd (false≢true some)
      go (Some v) some = refl

  pub full-append : (vs : List (Option T)) (xs ys : List ℕ) → AreFull vs xs → AreFull vs ys → AreFull vs (xs ++ ys)
  full-append vs [] ys left right = right
  full-append vs (x ∷ xs) ys left right = (left.0, full-append vs xs ys left.1 right)

  pub full-at : (vs : List (Option T)) (lists : List (List ℕ)) (q : ℕ) → AreAllFull vs lists → AreFull vs (get_or lists q [])
  full-at vs [] q full = tt
  full-at vs (cells ∷ rest) zero full = full.0
  full-at vs (cells ∷ rest) (suc q) full = full-at vs rest q full.1

  pub full-set_list : (vs : List (Option T)) (lists : List (List ℕ)) (q : ℕ) (cells : List ℕ) → AreFull vs cells → AreAllFull vs lists → AreAllFull vs (set lists q cells)
  full-set_list vs [] q cells new full = full
  full-set_list vs (old ∷ rest) zero cells new full = (new, full.1)
  full-set_list vs (old ∷ rest) (suc q) cells new full = (full.0, full-set_list vs rest q cells new full.1)
