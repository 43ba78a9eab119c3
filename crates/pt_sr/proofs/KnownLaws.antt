-- What is known of channels, and what becomes known of them.
use Rattle.std.proofs.Common.{◌≡◌, ◌⊎◌, inl, inr, ℕ, zero, suc, ◌<◌, ◌≤◌, List, [], ◌∷◌, Bool, true, false, length, get_or, set, take, drop, map, nat_eq, Option, Some, None, if◌then◌else◌, refl, sym, ap, subst, ◌∙◌, arith}
use Rattle.pt_meaning.specs.Streams.{Streams, get}
use Rattle.pt_meaning.specs.Machine.{Partial, Unknown, Known, partial_at}
use Rattle.pt_meaning.specs.Net.{Source, Own, Output}
use Rattle.pt_meaning.specs.Valuation.{known, known_then, is_known, tokens_of, unknowns}
use Rattle.pt_meaning.specs.Running.{total}
use Rattle.pt_meaning.specs.Laws.{PartialBelow, KnownBelow}
use Rattle.pt_laws.specs.TickRuns.{places_at}
use Rattle.pt_laws.proofs.TickLaws.{PartialBelow-refl, KnownBelow-take, KnownBelow-drop}
use Rattle.pt_firing.specs.TriState.{if_known}
use Rattle.pt_sr.specs.State.{learnt, unknown_in, after_child, after_children, at_first}

module _ {T : Type 0} where
  -- where none is unknown the tokens are known, and else not
  pub all-known : (vs : List (Partial T)) → unknown_in vs ≡ 0 → known vs ≡ Some (tokens_of vs)
  all-known [] h = refl
  all-known (Unknown ∷ vs) h = absurd (omega (arith, h))
  all-known (Known xs ∷ vs) h = ap (λ o. known_then (Known xs) o) (all-known vs h)

  unknown-then : (o : Option (Streams T)) → known_then Unknown o ≡ None
  unknown-then None = refl
  unknown-then (Some X) = refl

  pub none-known : (vs : List (Partial T)) → 0 < unknown_in vs → known vs ≡ None
  none-known [] h = absurd (omega (arith, h))
  none-known (Unknown ∷ vs) h = unknown-then (known vs)
  none-known (Known xs ∷ vs) h = ap (λ o. known_then (Known xs) o) (none-known vs h)

  -- the more is known the fewer are unknown
  pub unknown-falls : (vs ws : List (Partial T)) → KnownBelow vs ws → unknown_in ws ≤ unknown_in vs
  unknown-falls [] [] h = omega arith
  unknown-falls [] (w ∷ ws) h = absurd h
  unknown-falls (v ∷ vs) [] h = absurd h
  unknown-falls (Unknown ∷ vs) (Unknown ∷ ws) h = let t = unknown-falls vs ws h.1 in omega (arith, t)
  unknown-falls (Unknown ∷ vs) (Known ys ∷ ws) h = let t = unknown-falls vs ws h.1 in omega (arith, t)
  unknown-falls (Known xs ∷ vs) (Unknown ∷ ws) h = let e : Unknown ≡ Known xs = h.0 in absurd (cc)
  unknown-falls (Known xs ∷ vs) (Known ys ∷ ws) h = unknown-falls vs ws h.1

  -- where as many are unknown as before nothing has become known
  pub none-learnt : (vs ws : List (Partial T)) → KnownBelow vs ws → unknown_in vs ≤ unknown_in ws → ws ≡ vs
  none-learnt [] [] h l = refl
  none-learnt [] (w ∷ ws) h l = absurd h
  none-learnt (v ∷ vs) [] h l = absurd h
  none-learnt (Unknown ∷ vs) (Unknown ∷ ws) h l = ap (λ us. Unknown ∷ us) (none-learnt vs ws h.1 (omega (arith, l)))
  none-learnt (Unknown ∷ vs) (Known ys ∷ ws) h l = let t = unknown-falls vs ws h.1 in absurd (omega (arith, t, l))
  none-learnt (Known xs ∷ vs) (Unknown ∷ ws) h l = let e : Unknown ≡ Known xs = h.0 in absurd (cc)
  none-learnt (Known xs ∷ vs) (Known ys ∷ ws) h l = let e : Known ys ≡ Known xs = h.0 in ap (λ us. Known ys ∷ us) (none-learnt vs ws h.1 l) ∙ ap (λ (u : Partial T). u ∷ vs) e

  pub unknown-few : (n : ℕ) (V : List (Partial T)) → unknown_in (take n V) ≤ n
  unknown-few zero V = omega arith
  unknown-few (suc n) [] = omega arith
  unknown-few (suc n) (Unknown ∷ V) = let t = unknown-few n V in omega (arith, t)
  unknown-few (suc n) (Known xs ∷ V) = let t = unknown-few n V in omega (arith, t)

  -- what is known stays
  pub known-stays : (v w : Partial T) → PartialBelow v w → is_known v ≡ true → is_known w ≡ true
  known-stays Unknown w h e = absurd (cc)
  known-stays (Known xs) w h e = ap (λ u. is_known u) h

  -- two that are below a third, the first of which is known
  pub known-agrees : (v w x : Partial T) → PartialBelow v x → PartialBelow w x → is_known v ≡ true → PartialBelow w v
  known-agrees Unknown w x p q e = absurd (cc)
  known-agrees (Known ys) Unknown x p q e = tt
  known-agrees (Known ys) (Known xs) x p q e = sym p ∙ q

  -- what is learnt
  pub learnt-below : (v : Partial T) (g : Option (List T)) → PartialBelow v (learnt v g)
  learnt-below Unknown g = tt
  learnt-below (Known xs) g = refl

  pub learnt-known : (v : Partial T) (xs : List T) → is_known (learnt v (Some xs)) ≡ true
  learnt-known Unknown xs = refl
  learnt-known (Known ys) xs = refl

  pub learnt-early : (v w : Partial T) → (is_known (learnt v (if_known w)) ≡ true) ⊎ (w ≡ Unknown)
  learnt-early v Unknown = inr refl
  learnt-early v (Known xs) = inl (learnt-known v xs)

  pub learnt-may : (v w r : Partial T) (g : Option (List T)) → w ≡ learnt v g → ((xs : List T) → g ≡ Some xs → r ≡ Known xs) → (w ≡ v) ⊎ PartialBelow w r
  learnt-may (Known ys) w r g e h = inl e
  learnt-may Unknown w r None e h = inl e
  learnt-may Unknown w r (Some xs) e h = inr (subst (λ v. PartialBelow v r) (sym e) (h xs refl))

  pub if-known-some : (w : Partial T) (xs : List T) → if_known w ≡ Some xs → w ≡ Known xs
  if-known-some Unknown xs e = absurd (cc)
  if-known-some (Known ys) xs e = let a : ys ≡ xs = cc in ap (λ v. Known v) a

  -- what is known of the channels once a child gave something
  module _ (i : ℕ) (given : ℕ → Option (List T)) where
    pub after-long : (cs : List Source) (V : List (Partial T)) → length (after_children i given cs V) ≡ length V
    after-long [] V = refl
    after-long (c ∷ cs) [] = refl
    after-long (c ∷ cs) (v ∷ V) = ap (λ n. suc n) (after-long cs V)

    pub after-at : (cs : List Source) (V : List (Partial T)) (c : ℕ) (src : Source) → length V ≡ length cs → get cs c ≡ Some src → partial_at (after_children i given cs V) c ≡ after_child i given src (partial_at V c)
    after-at [] V c src l e = absurd (cc)
    after-at (x ∷ cs) [] c src l e = absurd (omega (arith, l))
    after-at (x ∷ cs) (v ∷ V) zero src l e = let a : x ≡ src = cc in ap (λ s. after_child i given s v) a
    after-at (x ∷ cs) (v ∷ V) (suc c) src l e = after-at cs V c src (omega (arith, l)) e

    if-below : (b : Bool) (v : Partial T) (g : Option (List T)) → PartialBelow v (if b then learnt v g else v)
    if-below true v g = learnt-below v g
    if-below false v g = PartialBelow-refl v

    child-below : (src : Source) (v : Partial T) → PartialBelow v (after_child i given src v)
    child-below (Own port) v = PartialBelow-refl v
    child-below (Output child port) v = if-below (nat_eq child i) v (given port)

    pub after-below : (cs : List Source) (V : List (Partial T)) → KnownBelow V (after_children i given cs V)
    after-below [] [] = tt
    after-below [] (v ∷ V) = (PartialBelow-refl v, after-below [] V)
    after-below (c ∷ cs) [] = tt
    after-below (c ∷ cs) (v ∷ V) = (child-below c v, after-below cs V)

  pub places-below : (ns : List ℕ) (i : ℕ) (V W : List (Partial T)) → KnownBelow V W → KnownBelow (places_at ns i V) (places_at ns i W)
  places-below ns i V W h = KnownBelow-take (get_or ns i 0) (drop (total (take i ns)) V) (drop (total (take i ns)) W) (KnownBelow-drop (total (take i ns)) V W h)

  -- one channel changed
  pub partial-set-same : (V : List (Partial T)) (c : ℕ) (v : Partial T) → c < length V → partial_at (set V c v) c ≡ v
  partial-set-same [] c v h = absurd (omega (arith, h))
  partial-set-same (x ∷ V) zero v h = refl
  partial-set-same (x ∷ V) (suc c) v h = partial-set-same V c v (omega (arith, h))

  pub partial-set-other : (V : List (Partial T)) (c j : ℕ) (v : Partial T) → (j ≡ c → ⊥) → partial_at (set V c v) j ≡ partial_at V j
  partial-set-other [] c j v z = refl
  partial-set-other (x ∷ V) zero zero v z = absurd (z refl)
  partial-set-other (x ∷ V) zero (suc j) v z = refl
  partial-set-other (x ∷ V) (suc c) zero v z = refl
  partial-set-other (x ∷ V) (suc c) (suc j) v z = partial-set-other V c j v (λ e. z (ap (λ n. suc n) e))

  -- the beginning of a tick
  pub first-at : (inputs : Streams T) (cs : List Source) (c : ℕ) (src : Source) → get cs c ≡ Some src → partial_at (map (λ s. at_first inputs s) cs) c ≡ at_first inputs src
  first-at inputs [] c src e = absurd (cc)
  first-at inputs (x ∷ cs) zero src e = let a : x ≡ src = cc in ap (λ s. at_first inputs s) a
  first-at inputs (x ∷ cs) (suc c) src e = first-at inputs cs c src e

  pub unknowns-at : (cs : List Source) (c : ℕ) → partial_at (unknowns {T = T} cs) c ≡ Unknown
  unknowns-at [] c = refl
  unknowns-at (x ∷ cs) zero = refl
  unknowns-at (x ∷ cs) (suc c) = unknowns-at cs c
