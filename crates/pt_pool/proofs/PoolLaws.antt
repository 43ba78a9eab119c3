-- The items of all queues after a step.
use Rattle.std.proofs.Common.{◌≡◌, ℕ, zero, suc, ◌+◌, ◌<◌, ◌≤◌, List, [], ◌∷◌, ◌++◌, length, get_or, set, map, drop, take, slice_get, refl, sym, ap, ap₂, ◌∙◌, subst, arith, Option, Some, None, IsSome, is_some, filter_map, Bool, true, false, if◌then◌else◌}
use Rattle.std.proofs.lemmas.List.{map-set, get_or-set_same, set-get_or}
use Rattle.std.proofs.lemmas.List.Elements.{filter_map-append}
use Rattle.std.proofs.Math.ListN as list
use Rattle.std.specs.List.{cons_option}
use Rattle.pt_pool.specs.Chains.{chain, times, times_in}
use Rattle.pt_pool.specs.Queues.{list_at, pushed, popped, moved}
use Rattle.pt_pool.specs.Values.{values_at, AreFull, AreAllFull, IsWalk}
use Rattle.pt_pool.proofs.Counts.{times-self, times-le}
use Rattle.pt_pool.proofs.ValueLaws.{values-set, full-set, all_values-set, all_full-set, first-value, later-values, first-taken, full-append, full-at, full-set_list}

module _ {T : Type 0} where
  -- the list of queue q has the values of its cells
  pub list-at : (vs : List (Option T)) (C : List (List ℕ)) (q : ℕ) → get_or (map (values_at vs) C) q [] ≡ values_at vs (get_or C q [])
  list-at vs C q = list.get_or-map (values_at vs) C q []

  -- an empty queue stays as it is when its front goes
  pub nothing-popped : (lists : List (List T)) (q : ℕ) → get_or lists q [] ≡ [] → lists ≡ set lists q (drop 1 (get_or lists q []))
  nothing-popped lists q none = rw none (subst (λ a. lists ≡ set lists q a) none (sym (set-get_or lists q [])))

  module _ (vs : List (Option T)) (C : List (List ℕ)) (full : AreAllFull vs C) (q : ℕ) where
    abbrev X : List ℕ
    X = get_or C q []

    -- this cell, which no queue has, goes to the back of queue q
    module _ (cell : ℕ) where
      pub appended-lists : map (values_at vs) (set C q (X ++ cell ∷ [])) ≡ set (map (values_at vs) C) q (get_or (map (values_at vs) C) q [] ++ values_at vs (cell ∷ []))
      appended-lists =
          map-set (values_at vs) C q (X ++ cell ∷ [])
          ∙ ap (set (map (values_at vs) C) q) (filter_map-append (λ x. get_or vs x None) X (cell ∷ []) ∙ ap (λ a. a ++ values_at vs (cell ∷ [])) (sym (list-at vs C q)))

      pub appended-full : IsSome (get_or vs cell None) → AreAllFull vs (set C q (X ++ cell ∷ []))
      appended-full has = full-set_list vs C q (X ++ cell ∷ []) (full-append vs X (cell ∷ []) (full-at vs C q full) (has, tt)) full

    -- the front cell leaves queue q
    module _ (cell : ℕ) (front : X ≡ cell ∷ drop 1 X) where
      fully : AreFull vs (cell ∷ drop 1 X)
      fully = subst (AreFull vs) front (full-at vs C q full)

      pub front-value : slice_get (get_or (map (values_at vs) C) q []) 0 ≡ get_or vs cell None
      front-value = ap (λ a. slice_get a 0) (list-at vs C q ∙ ap (values_at vs) front) ∙ first-value vs cell (drop 1 X) fully

      pub front-some : IsSome (get_or vs cell None)
      front-some = fully.0

      pub front-taken : take 1 (get_or (map (values_at vs) C) q []) ≡ values_at vs (cell ∷ [])
      front-taken = ap (λ a. take 1 a) (list-at vs C q ∙ ap (values_at vs) front) ∙ first-taken vs cell (drop 1 X) fully

      pub left-lists : map (values_at vs) (set C q (drop 1 X)) ≡ set (map (values_at vs) C) q (drop 1 (get_or (map (values_at vs) C) q []))
      left-lists =
          map-set (values_at vs) C q (drop 1 X)
          ∙ ap (set (map (values_at vs) C) q) (sym (ap (λ a. drop 1 a) (list-at vs C q ∙ ap (values_at vs) front) ∙ later-values vs cell (drop 1 X) fully))

      pub left-full : AreAllFull vs (set C q (drop 1 X))
      left-full = full-set_list vs C q (drop 1 X) fully.1 full

  -- a value is written at a free cell, which goes to the back of queue q
  module _ (vs : List (Option T)) (C : List (List ℕ)) (full : AreAllFull vs C) (q cell : ℕ) (v : T) (apart : times_in cell C ≡ 0) (inside : cell < length vs) (C' : List (List ℕ)) (chains' : C' ≡ set C q (get_or C q [] ++ cell ∷ [])) (lists : List (List T)) (view : map (values_at vs) C ≡ lists) where
    abbrev written : List (Option T)
    written = set vs cell (Some v)

    read : get_or written cell None ≡ Some v
    read = get_or-set_same vs cell (Some v) None inside

    full' : AreAllFull written C
    full' = all_full-set vs cell (Some v) C apart full

    pub push-full : AreAllFull written C'
    push-full = subst (AreAllFull written) (sym chains') (appended-full written C full' q cell (subst (λ o. IsSome o) (sym read) refl))

    pub push-lists : map (values_at written) C' ≡ pushed lists q v
    push-lists =
        ap (map (values_at written)) chains'
        ∙ appended-lists written C full' q cell
        ∙ ap₂ (λ L w. set L q (get_or L q [] ++ w)) (all_values-set vs cell (Some v) C apart ∙ view) (ap (λ o. cons_option o []) read)

  -- the front cell leaves queue q, and something is written there
  module _ (vs : List (Option T)) (C : List (List ℕ)) (full : AreAllFull vs C) (q cell : ℕ) (v : Option T) (front : get_or C q [] ≡ cell ∷ drop 1 (get_or C q [])) (C' : List (List ℕ)) (chains' : C' ≡ set C q (drop 1 (get_or C q []))) (apart : times_in cell C' ≡ 0) (lists : List (List T)) (view : map (values_at vs) C ≡ lists) where
    pub pop-value : slice_get (list_at lists q) 0 ≡ get_or vs cell None
    pop-value = ap (λ L. slice_get (list_at L q) 0) (sym view) ∙ front-value vs C full q cell front

    pub pop-some : IsSome (get_or vs cell None)
    pop-some = front-some vs C full q cell front

    pub pop-full : AreAllFull (set vs cell v) C'
    pop-full = all_full-set vs cell v C' apart (subst (AreAllFull vs) (sym chains') (left-full vs C full q cell front))

    pub pop-lists : map (values_at (set vs cell v)) C' ≡ popped lists q
    pop-lists =
        all_values-set vs cell v C' apart
        ∙ ap (map (values_at vs)) chains'
        ∙ left-lists vs C full q cell front
        ∙ ap (λ L. popped L q) view

  -- the front cell of one queue goes to the back of another
  module _ (vs : List (Option T)) (C : List (List ℕ)) (full : AreAllFull vs C) (from to cell : ℕ) (front : get_or C from [] ≡ cell ∷ drop 1 (get_or C from [])) (D E : List (List ℕ)) (first : D ≡ set C from (drop 1 (get_or C from []))) (second : E ≡ set D to (get_or D to [] ++ cell ∷ [])) (lists : List (List T)) (view : map (values_at vs) C ≡ lists) where
    between : AreAllFull vs D
    between = subst (AreAllFull vs) (sym first) (left-full vs C full from cell front)

    pub move-full : AreAllFull vs E
    move-full = subst (AreAllFull vs) (sym second) (appended-full vs D between to cell (front-some vs C full from cell front))

    pub move-lists : map (values_at vs) E ≡ moved lists from to
    move-lists =
        ap (map (values_at vs)) second
        ∙ appended-lists vs D between to cell
        ∙ ap₂ (λ L w. set L to (get_or L to [] ++ w))
        (ap (map (values_at vs)) first ∙ left-lists vs C full from cell front ∙ ap (λ L. popped L from) view)
        (sym (front-taken vs C full from cell front) ∙ ap (λ L. take 1 (list_at L from)) view)

  pub full-open : (vs : List (Option T)) (C : List (List ℕ)) → AreAllFull vs C → AreAllFull vs (C ++ [] ∷ [])
  full-open vs [] full = (tt, tt)
  full-open vs (cells ∷ rest) full = (full.0, full-open vs rest full.1)

pub at_most-one-more : (b : Bool) (n m : ℕ) → m ≡ (if b then n + 1 else n) → m ≤ n + 1
at_most-one-more true n m is = omega (arith, is)
at_most-one-more false n m is = omega (arith, is)

-- a chain of cells that have values can be walked
pub is-walk : {T : Type 0} (vs : List (Option T)) (next : List ℕ) → length next ≤ length vs → (n h : ℕ) → ((c : ℕ) → 0 < times c (chain next n h) → c < length next) → AreFull vs (chain next n h) → IsWalk vs next n h
is-walk vs next wide zero h inside full = tt
is-walk vs next wide (suc n) h inside full =
    let cell : h < length next = inside h (omega (arith, times-self h (chain next n (get_or next h 0)))) in
    (omega (arith, cell, wide), cell, full.0, is-walk vs next wide n (get_or next h 0) (λ c some. inside c (omega (arith, some))) full.1)
