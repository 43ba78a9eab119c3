-- A walk back from a stuck child: it goes on, and where a child comes again there is a loop.
use Rattle.std.proofs.Common.{◌≡◌, ℕ, ◌+◌, ◌-◌, ◌<◌, Bool, false, cond, List, [], ◌∷◌, ◌++◌, length, reverse, replicate, get_or, set, drop, Option, Some, None, Contains, sym, ap, subst, ◌∙◌, arith, inl, inr, is_none, Result, Ok, Err, IfOk}
use Rattle.std.proofs.lemmas.Bool.{cases_eq, cases_lt}
use Rattle.std.proofs.lemmas.List.{length-set, length_push, length-drop, length-reverse, get_or-set_same, get_or-set_other, get_or-replicate, length-replicate, get_or_past, get_or_append_left, get_or_push, get_or-drop, get_or-reverse, get_or_read}
use Rattle.std.proofs.lemmas.List.Elements.{All-contains}
use Rattle.std.proofs.lemmas.List.Sums.{sum_by-set}
use Rattle.std.specs.List.{count_by}
use Rattle.pt_events.specs.Depths.{IsCycle}
use Rattle.pt_events.specs.Found.{list_at, AreInside, FeedsBy, is_known, AreKnown, IsStuck, IsWalk, place_of}

pub walk-start : (lists : List (List ℕ)) (known : List Bool) (places : List (Option ℕ)) (child : ℕ) → IsStuck lists known child → places ≡ replicate (length lists) None → IsWalk lists known [] places child
walk-start lists known places child h start = record {
  inside = h.inside;
  unknown = h.unknown;
  counted = ap length start ∙ length-replicate (length lists) None;
  steps = λ k l. absurd (omega (arith, l));
  last = λ l. absurd (omega (arith, l));
  placed = λ other place at. absurd (none other place (sym (ap (λ xs. get_or xs other None) start) ∙ at));
}
  where
    none : (other place : ℕ) → get_or (replicate (length lists) None) other None ≡ Some place → ⊥
    none other place at = elim (cases_lt other (length lists)) [
      | inl l ↦ let no : None ≡ Some place = sym (get_or-replicate (length lists) other None None l) ∙ at in cc
      | inr past ↦ let no : None ≡ Some place = sym (get_or_past (replicate (length lists) None) other None (omega (arith, past, length-replicate {A = Option ℕ} (length lists) None))) ∙ at in cc
    ]

-- a stuck child has a feeder of unknown depth
pub fed-stuck : (lists : List (List ℕ)) (known : List Bool) (stuck : ℕ) (path : List ℕ) (places : List (Option ℕ)) (child : ℕ) → IsStuck lists known stuck → IsWalk lists known path places child → AreKnown known (list_at lists child) → ⊥
fed-stuck lists known stuck path places child h w all = h.none child (record { inside = w.inside; unknown = w.unknown; fed = all })

module _ (lists : List (List ℕ)) (known : List Bool) (path : List ℕ) (places : List (Option ℕ)) (child : ℕ) (w : IsWalk lists known path places child) where
  pub walk-more : (feeder : ℕ) → AreInside lists → Contains (list_at lists child) feeder → is_known known feeder ≡ false → IsWalk lists known (path ++ child ∷ []) (set places child (Some (length path))) feeder
  walk-more feeder inside there unknown = record {
    inside = All-contains (λ x. x < length lists) (list_at lists child) feeder (inside child w.inside) there;
    unknown = unknown;
    counted = length-set places child (Some (length path)) ∙ w.counted;
    steps = λ k l. elim (cases_lt (k + 1) (length path)) [
      | inl m ↦ subst (λ a. FeedsBy lists (get_or (path ++ child ∷ []) (k + 1) 0) a) (sym (front k (omega (arith, m)))) (subst (λ a. FeedsBy lists a (get_or path k 0)) (sym (front (k + 1) m)) (w.steps k m))
      | inr m ↦
          let e : length path ≡ k + 1 = omega (arith, l, m, length_push path child) in
          let f : length path - 1 ≡ k = omega (arith, e) in
          subst (λ a. FeedsBy lists (get_or (path ++ child ∷ []) (k + 1) 0) a) (sym (front k (omega (arith, e))))
          (subst (λ a. FeedsBy lists a (get_or path k 0)) (sym (get_or_push path child 0 (k + 1) e)) (subst (λ j. FeedsBy lists child (get_or path j 0)) f (w.last (omega (arith, e)))))
    ];
    last = λ _. subst (λ a. FeedsBy lists feeder a) (sym (get_or_push path child 0 (length (path ++ child ∷ []) - 1) (omega (arith, length_push path child)))) there;
    placed = λ other place at. elim (cases_eq other child) [
      | inl e ↦
          let read : Some (length path) ≡ Some place = sym (ap (λ c. get_or (set places child (Some (length path))) c None) e ∙ get_or-set_same places child (Some (length path)) None (omega (arith, w.inside, w.counted))) ∙ at in
          let p : length path ≡ place = cc in
          (omega (arith, length_push path child, p), get_or_push path child 0 place p ∙ sym e)
      | inr d ↦
          let was = w.placed other place (sym (get_or-set_other places child other (Some (length path)) None d) ∙ at) in
          (omega (arith, was.0, length_push path child), front place was.0 ∙ was.1)
    ];
  }
    where
      front : (k : ℕ) → k < length path → get_or (path ++ child ∷ []) k 0 ≡ get_or path k 0
      front k l = get_or_append_left path (child ∷ []) 0 k l

  -- one place less is free
  pub places-fall : place_of places child ≡ None → count_by is_none (set places child (Some (length path))) < count_by is_none places
  places-fall free =
      let s = sum_by-set (λ o. cond (is_none o) 1 0) places child (Some (length path)) None (omega (arith, w.inside, w.counted)) in
      let one : Option ℕ → ℕ = λ o. cond (is_none o) 1 0 in
      let z : one (get_or places child None) ≡ 1 = ap one free in
      omega (arith, s, z)

  -- the walk from where the child came first is a loop, read backwards
  pub walk-cycle : (place : ℕ) → place_of places child ≡ Some place → IsCycle (FeedsBy lists) (reverse (drop place path))
  walk-cycle place at = record {
    some = omega (arith, long, cut, was.0);
    next = λ k l.
        let e : place + (length (drop place path) - 1 - k) ≡ place + (length (drop place path) - 1 - (k + 1)) + 1 = omega (arith, l, long) in
        subst (λ a. FeedsBy lists a (get_or (reverse (drop place path)) (k + 1) 0)) (sym (read k (omega (arith, l))))
        (subst (λ b. FeedsBy lists (get_or path (place + (length (drop place path) - 1 - k)) 0) b) (sym (read (k + 1) l))
        (subst (λ j. FeedsBy lists (get_or path j 0) (get_or path (place + (length (drop place path) - 1 - (k + 1))) 0)) (sym e) (w.steps (place + (length (drop place path) - 1 - (k + 1))) (omega (arith, l, long, cut, was.0)))));
    closed =
        let n : ℕ = length (reverse (drop place path)) in
        let e : place + (length (drop place path) - 1 - (n - 1)) ≡ place = omega (arith, long, cut, was.0) in
        let f : place + (length (drop place path) - 1 - 0) ≡ length path - 1 = omega (arith, long, cut, was.0) in
        subst (λ a. FeedsBy lists a (get_or (reverse (drop place path)) 0 0)) (sym (read (n - 1) (omega (arith, long, cut, was.0)) ∙ ap (λ j. get_or path j 0) e ∙ was.1))
        (subst (λ b. FeedsBy lists child b) (sym (read 0 (omega (arith, long, cut, was.0)) ∙ ap (λ j. get_or path j 0) f)) (w.last (omega (arith, was.0))));
  }
    where
      was : (place < length path) × (get_or path place 0 ≡ child)
      was = w.placed child place at

      long : length (reverse (drop place path)) ≡ length (drop place path)
      long = length-reverse (drop place path)

      cut : length (drop place path) ≡ length path - place
      cut = length-drop place path

      read : (k : ℕ) → k < length (reverse (drop place path)) → get_or (reverse (drop place path)) k 0 ≡ get_or path (place + (length (drop place path) - 1 - k)) 0
      read k l = get_or-reverse (drop place path) k 0 (omega (arith, l, long)) ∙ get_or-drop place path (length (drop place path) - 1 - k) 0

-- the place of a child, as it is read
pub place-read : (places : List (Option ℕ)) (child : ℕ) (x o : Option ℕ) → child < length places → x ≡ get_or places child x → x ≡ o → place_of places child ≡ o
place-read places child x o l at is = sym (get_or_read places child x l at None) ∙ is

-- a step back, with the lists as they are read
pub walk-step : (lists : List (List ℕ)) (known : List Bool) (path next : List ℕ) (places : List (Option ℕ)) (child feeder n : ℕ) (xs : List ℕ) → IsWalk lists known path places child → AreInside lists → next ≡ path ++ child ∷ [] → n ≡ length path → xs ≡ list_at lists child → Contains xs feeder → is_known known feeder ≡ false → IsWalk lists known next (set places child (Some n)) feeder
walk-step lists known path next places child feeder n xs w inside is counted e there unknown =
    subst (λ p. IsWalk lists known p (set places child (Some n)) feeder) (sym is)
    (subst (λ m. IsWalk lists known (path ++ child ∷ []) (set places child (Some m)) feeder) (sym counted) (walk-more lists known path places child w feeder inside (subst (λ ys. Contains ys feeder) e there) unknown))

pub fall-at : (lists : List (List ℕ)) (known : List Bool) (path : List ℕ) (places : List (Option ℕ)) (child n : ℕ) → IsWalk lists known path places child → n ≡ length path → place_of places child ≡ None → count_by is_none (set places child (Some n)) < count_by is_none places
fall-at lists known path places child n w counted free = subst (λ m. count_by is_none (set places child (Some m)) < count_by is_none places) (sym counted) (places-fall lists known path places child w free)

-- the children that were collected are a loop
pub cycle-at : {V E : Type 0} (items : V → List ℕ) (R : ℕ → ℕ → Type 0) (xs ys : List ℕ) (result : Result V E) → IfOk result (λ v. items v ≡ ys) → ys ≡ xs → IsCycle R xs → IfOk result (λ v. IsCycle R (items v))
cycle-at items R xs ys (Ok v) h e c = subst (IsCycle R) (sym (h ∙ e)) c
cycle-at items R xs ys (Err e) h f c = tt
