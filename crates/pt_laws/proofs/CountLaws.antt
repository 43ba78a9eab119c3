-- Each round lies below the round whose number is the number of firings made in it, since a round that makes no more firings than the one before is the last.
use Rattle.std.proofs.Common.{◌≡◌, ℕ, zero, suc, ◌≤◌, ◌<◌, ◌+◌, List, [], ◌∷◌, ◌++◌, ◌-◌, take, drop, append-nil, Option, Some, None, refl, sym, ap, ap₂, subst, arith, ◌∙◌, ◌⊎◌, inl, inr}
use Rattle.pt_meaning.specs.Basics.{Tag, Streams, Below, joined, at, log_then, own}
use Rattle.pt_meaning.specs.Machine.{Outcome, Done, Stuck, Stepping, Facts, Front, Lacks, Ends, Takes, front}
use Rattle.pt_meaning.specs.Flow.{Flow, flow, on_outcome, on_front, after_firing}
use Rattle.pt_meaning.specs.Rounds.{Source, Own, Output, Net, Limit, within, rated, gave, fed, refill, flows, round}
use Rattle.pt_meaning.specs.Running.{total}
use Rattle.pt_laws.specs.SettledRuns.{fired_of, RoundsCount}
use Rattle.pt_laws.proofs.Order.{Below-refl, Below-take, Below-drop}
use Rattle.pt_laws.proofs.FlowLaws.{FrontBelow, front-below}
use Rattle.pt_laws.proofs.RoundLaws.{grows-refl, round-below, flow-fired}

-- one flow, and the same with more firings allowed and longer streams: it fires no less, and where it fires as often it gives the same
pub record FiresMore {T S : Type 0} (f g : Flow T S) : Type 0 where
  pub fired : f.fired ≤ g.fired
  pub same : f.fired ≡ g.fired → g.outputs ≡ f.outputs

module _ {T S : Type 0} (facts : Facts T S) (step : Stepping T S) (tag : Tag) where
  -- without a firing there are no outputs
  on-none : (go : S → Streams T → Flow T S) (s : S) (X got left : Streams T) (r : Outcome T S) → (on_outcome facts step tag go s X got left r).fired ≡ 0 → (on_outcome facts step tag go s X got left r).outputs ≡ []
  on-none go s X got left (Done z o l) e = absurd (omega arith)
  on-none go s X got left (Stuck fs l) e = refl

  front-none : (go : S → Streams T → Flow T S) (s : S) (X : Streams T) (f : Front T) → (on_front facts step tag go s X f).fired ≡ 0 → (on_front facts step tag go s X f).outputs ≡ []
  front-none go s X Lacks e = refl
  front-none go s X Ends e = refl
  front-none go s X (Takes got left) e = on-none go s X got left (step tag s got) e

  none-given : (n : ℕ) (s : S) (X : Streams T) → (flow facts step tag n s X).fired ≡ 0 → (flow facts step tag n s X).outputs ≡ []
  unfolding flow
  none-given zero s X e = refl
  none-given (suc n) s X e = front-none (flow facts step tag n) s X (front (facts.need s) X) e

  on-more : (go go' : S → Streams T → Flow T S) → ((s : S) (X Y : Streams T) → Below X Y → FiresMore (go s X) (go' s Y)) → (s : S) (X Y got left left' : Streams T) → Below left left' → (r : Outcome T S) →
      FiresMore (on_outcome facts step tag go s X got left r) (on_outcome facts step tag go' s Y got left' r)
  on-more go go' ih s X Y got left left' b (Done z o l) =
      let h = ih z left left' b in record { fired = omega (arith, h.fired); same = λ e. ap (λ v. joined o v) (h.same (omega (arith, e))) }
  on-more go go' ih s X Y got left left' b (Stuck fs l) = record { fired = omega arith; same = λ e. refl }

  fronts-more : (n n' : ℕ) → ((s : S) (X Y : Streams T) → Below X Y → FiresMore (flow facts step tag n s X) (flow facts step tag n' s Y)) → (s : S) (X Y : Streams T) (f g : Front T) → FrontBelow f g →
      FiresMore (on_front facts step tag (flow facts step tag n) s X f) (on_front facts step tag (flow facts step tag n') s Y g)
  fronts-more n n' ih s X Y Lacks g h = record { fired = omega arith; same = λ e. front-none (flow facts step tag n') s Y g (sym e) }
  fronts-more n n' ih s X Y Ends g h = record { fired = omega arith; same = λ e. front-none (flow facts step tag n') s Y g (sym e) }
  fronts-more n n' ih s X Y (Takes got left) g h = rw h.1 (on-more (flow facts step tag n) (flow facts step tag n') ih s X Y got left h.0 h.2 (step tag s got))

  pub flow-more-fired : (n n' : ℕ) → n ≤ n' → (s : S) (X Y : Streams T) → Below X Y → FiresMore (flow facts step tag n s X) (flow facts step tag n' s Y)
  unfolding flow
  flow-more-fired zero n' h s X Y b = record { fired = omega arith; same = λ e. none-given n' s Y (sym e) }
  flow-more-fired (suc n) zero h s X Y b = absurd (omega arith)
  flow-more-fired (suc n) (suc n') h s X Y b = fronts-more n n' (λ z Z W c. flow-more-fired n n' (omega arith) z Z W c) s X Y (front (facts.need s) X) (front (facts.need s) Y) (front-below (facts.need s) X Y b)

  -- below its bound a flow is the same with a greater bound
  on-free : (n : ℕ) (go go' : S → Streams T → Flow T S) → ((s : S) (X : Streams T) → (go s X).fired < n → go' s X ≡ go s X) → (s : S) (X got left : Streams T) (r : Outcome T S) → (on_outcome facts step tag go s X got left r).fired < suc n →
      on_outcome facts step tag go' s X got left r ≡ on_outcome facts step tag go s X got left r
  on-free n go go' ih s X got left (Done z o l) e = ap (λ v. after_firing o (log_then l (own (record { number = facts.made s; tag = tag; inputs = got; outputs = o }))) v) (ih z left (omega (arith, e)))
  on-free n go go' ih s X got left (Stuck fs l) e = refl

  front-free : (n : ℕ) (go go' : S → Streams T → Flow T S) → ((s : S) (X : Streams T) → (go s X).fired < n → go' s X ≡ go s X) → (s : S) (X : Streams T) (f : Front T) → (on_front facts step tag go s X f).fired < suc n →
      on_front facts step tag go' s X f ≡ on_front facts step tag go s X f
  front-free n go go' ih s X Lacks e = refl
  front-free n go go' ih s X Ends e = refl
  front-free n go go' ih s X (Takes got left) e = on-free n go go' ih s X got left (step tag s got) e

  pub flow-free : (n n' : ℕ) → n ≤ n' → (s : S) (X : Streams T) → (flow facts step tag n s X).fired < n → flow facts step tag n' s X ≡ flow facts step tag n s X
  unfolding flow
  flow-free zero n' h s X e = absurd (omega (arith, e))
  flow-free (suc n) zero h s X e = absurd (omega arith)
  flow-free (suc n) (suc n') h s X e = front-free n (flow facts step tag n) (flow facts step tag n') (λ z Z l. flow-free n n' (omega arith) z Z l) s X (front (facts.need s) X) e

-- child by child
abbrev pub AllFireMore : {T S : Type 0} → List (Flow T S) → List (Flow T S) → Type 0
AllFireMore [] [] = Unit {0}
AllFireMore (f ∷ fs) (g ∷ gs) = FiresMore f g × AllFireMore fs gs
AllFireMore [] (g ∷ gs) = ⊥
AllFireMore (f ∷ fs) [] = ⊥

total-more : {T S : Type 0} (fs gs : List (Flow T S)) → AllFireMore fs gs → total (fired_of fs) ≤ total (fired_of gs)
total-more [] [] h = omega arith
total-more (f ∷ fs) (g ∷ gs) h = let a = h.0.fired in let b = total-more fs gs h.1 in omega (arith, a, b)
total-more [] (g ∷ gs) h = absurd h
total-more (f ∷ fs) [] h = absurd h

-- where the totals are the same each child fires as often, and gives the same
same-gave : {T S : Type 0} (fs gs : List (Flow T S)) → AllFireMore fs gs → total (fired_of fs) ≡ total (fired_of gs) → (i p : ℕ) → gave gs i p ≡ gave fs i p
same-gave [] [] h e i p = refl
same-gave (f ∷ fs) (g ∷ gs) h e zero p = let a = h.0.fired in let b = total-more fs gs h.1 in ap (λ v. at v p) (h.0.same (omega (arith, a, b, e)))
same-gave (f ∷ fs) (g ∷ gs) h e (suc i) p = let a = h.0.fired in let b = total-more fs gs h.1 in same-gave fs gs h.1 (omega (arith, a, b, e)) i p
same-gave [] (g ∷ gs) h e i p = absurd h
same-gave (f ∷ fs) [] h e i p = absurd h

same-fed : {T S : Type 0} (fs gs : List (Flow T S)) → ((i p : ℕ) → gave gs i p ≡ gave fs i p) → (c : Source) → fed gs c ≡ fed fs c
same-fed fs gs h (Own p) = refl
same-fed fs gs h (Output i p) = h i p

pub same-refill : {T S : Type 0} (fs gs : List (Flow T S)) → ((i p : ℕ) → gave gs i p ≡ gave fs i p) → (cs : List Source) (X : Streams T) → refill gs cs X ≡ refill fs cs X
same-refill fs gs h [] X = refl
same-refill fs gs h (c ∷ cs) [] = refl
same-refill fs gs h (c ∷ cs) (xs ∷ X) = ap₂ (λ a b. (xs ++ a) ∷ b) (same-fed fs gs h c) (same-refill fs gs h cs X)

-- what is within a bound of its own, or less than the next number
pub within-grows : (c : Option ℕ) (k k' : ℕ) → k ≤ k' → within c k ≤ within c k'
within-grows None k k' h = h
within-grows (Some c) k k' h = omega arith

bound-or-less : (c : Option ℕ) (a j k : ℕ) → suc j < k → a ≤ within c (suc j) → (within c k ≡ within c (suc (suc j))) ⊎ (a < within c (suc (suc j)))
bound-or-less None a j k h l = inr (omega arith)
bound-or-less (Some c) a j k h l = elim (cases c (suc j)) [ inl x ↦ inl (omega arith) | inr y ↦ inr (omega arith) ]
  where
    cases : (a b : ℕ) → (a ≤ b) ⊎ (b < a)
    cases a b = grind arith

module _ {T S : Type 0} (facts : Facts T S) (step : Stepping T S) (tag : Tag) where
  flows-more : (ns : List ℕ) (cs : List Limit) (k k' : ℕ) → k ≤ k' → (ss : List S) (X Y : Streams T) → Below X Y → AllFireMore (flows facts step tag ns cs k ss X) (flows facts step tag ns cs k' ss Y)
  flows-more (n ∷ ns) (c ∷ cs) k k' h (s ∷ ss) X Y b = (
    flow-more-fired facts (rated facts c.rates step) tag (within c.firings k) (within c.firings k') (within-grows c.firings k k' h) s (take n X) (take n Y) (Below-take n X Y b),
    flows-more ns cs k k' h ss (drop n X) (drop n Y) (Below-drop n X Y b),
  )
  flows-more [] cs k k' h ss X Y b = tt
  flows-more (n ∷ ns) [] k k' h ss X Y b = tt
  flows-more (n ∷ ns) (c ∷ cs) k k' h [] X Y b = tt

  -- flows that fire as often as those of the round before stay as they are
  flows-last : (ns : List ℕ) (cs : List Limit) (j k : ℕ) → suc j < k → (ss : List S) (X Y : Streams T) → Below X Y → total (fired_of (flows facts step tag ns cs (suc j) ss X)) ≡ total (fired_of (flows facts step tag ns cs (suc (suc j)) ss Y)) →
      flows facts step tag ns cs k ss Y ≡ flows facts step tag ns cs (suc (suc j)) ss Y
  flows-last (n ∷ ns) (c ∷ cs) j k h (s ∷ ss) X Y b e =
      let few = flow facts (rated facts c.rates step) tag (within c.firings (suc j)) s (take n X) in
      let many = flow facts (rated facts c.rates step) tag (within c.firings (suc (suc j))) s (take n Y) in
      let here = flow-more-fired facts (rated facts c.rates step) tag (within c.firings (suc j)) (within c.firings (suc (suc j))) (within-grows c.firings (suc j) (suc (suc j)) (omega arith)) s (take n X) (take n Y) (Below-take n X Y b) in
      let rest = total-more _ _ (flows-more ns cs (suc j) (suc (suc j)) (omega arith) ss (drop n X) (drop n Y) (Below-drop n X Y b)) in
      let low : few.fired ≤ within c.firings (suc j) = flow-fired facts (rated facts c.rates step) tag (within c.firings (suc j)) s (take n X) in
      let more : few.fired ≤ many.fired = here.fired in
      ap₂ (λ a b. a ∷ b) (one c n s Y many.fired refl (bound-or-less c.firings many.fired j k h (omega (arith, low, more, rest, e)))) (flows-last ns cs j k h ss (drop n X) (drop n Y) (Below-drop n X Y b) (omega (arith, more, rest, e)))
    where
      one : (c : Limit) (n : ℕ) (s : S) (Y : Streams T) (a : ℕ) → a ≡ (flow facts (rated facts c.rates step) tag (within c.firings (suc (suc j))) s (take n Y)).fired → (within c.firings k ≡ within c.firings (suc (suc j))) ⊎ (a < within c.firings (suc (suc j))) →
          flow facts (rated facts c.rates step) tag (within c.firings k) s (take n Y) ≡ flow facts (rated facts c.rates step) tag (within c.firings (suc (suc j))) s (take n Y)
      one c n s Y a e (inl x) = ap (λ m. flow facts (rated facts c.rates step) tag m s (take n Y)) x
      one c n s Y a e (inr y) = flow-free facts (rated facts c.rates step) tag (within c.firings (suc (suc j))) (within c.firings k) (within-grows c.firings (suc (suc j)) k (omega arith)) s (take n Y) (omega (arith, e, y))
  flows-last [] cs j k h ss X Y b e = refl
  flows-last (n ∷ ns) [] j k h ss X Y b e = refl
  flows-last (n ∷ ns) (c ∷ cs) j k h [] X Y b e = refl

  -- where none fires at the first round
  flows-still : (ns : List ℕ) (cs : List Limit) (k : ℕ) → 0 < k → (ss : List S) (X : Streams T) → total (fired_of (flows facts step tag ns cs 1 ss X)) ≡ 0 → flows facts step tag ns cs k ss X ≡ flows facts step tag ns cs 1 ss X
  flows-still (n ∷ ns) (c ∷ cs) k h (s ∷ ss) X e =
      ap₂ (λ a b. a ∷ b) (one c n s X (cap c.firings) (omega (arith, e))) (flows-still ns cs k h ss (drop n X) (omega (arith, e)))
    where
      cap : (c : Option ℕ) → (within c k ≡ within c 1) ⊎ (0 < within c 1)
      cap None = inr (omega arith)
      cap (Some zero) = inl (omega arith)
      cap (Some (suc c)) = inr (omega arith)

      one : (c : Limit) (n : ℕ) (s : S) (X : Streams T) → (within c.firings k ≡ within c.firings 1) ⊎ (0 < within c.firings 1) → (flow facts (rated facts c.rates step) tag (within c.firings 1) s (take n X)).fired ≡ 0 →
          flow facts (rated facts c.rates step) tag (within c.firings k) s (take n X) ≡ flow facts (rated facts c.rates step) tag (within c.firings 1) s (take n X)
      one c n s X (inl x) e = ap (λ m. flow facts (rated facts c.rates step) tag m s (take n X)) x
      one c n s X (inr y) e = flow-free facts (rated facts c.rates step) tag (within c.firings 1) (within c.firings k) (within-grows c.firings 1 k (omega arith)) s (take n X) (omega (arith, e, y))
  flows-still [] cs k h ss X e = refl
  flows-still (n ∷ ns) [] k h ss X e = refl
  flows-still (n ∷ ns) (c ∷ cs) k h [] X e = refl

  still-gave : (ns : List ℕ) (cs : List Limit) (ss : List S) (X : Streams T) → total (fired_of (flows facts step tag ns cs 1 ss X)) ≡ 0 → (i p : ℕ) → gave (flows facts step tag ns cs 1 ss X) i p ≡ []
  still-gave (n ∷ ns) (c ∷ cs) (s ∷ ss) X e zero p = ap (λ v. at v p) (none-given facts (rated facts c.rates step) tag (within c.firings 1) s (take n X) (omega (arith, e)))
  still-gave (n ∷ ns) (c ∷ cs) (s ∷ ss) X e (suc i) p = still-gave ns cs ss (drop n X) (omega (arith, e)) i p
  still-gave [] cs ss X e i p = refl
  still-gave (n ∷ ns) [] ss X e i p = refl
  still-gave (n ∷ ns) (c ∷ cs) [] X e i p = refl

  module _ (net : Net) (limits : List Limit) (kids : List S) (start : Streams T) where
    R : ℕ → Streams T
    R k = round facts step tag net limits kids start k

    -- the flows that make round k + 1 of round k
    F : ℕ → List (Flow T S)
    F k = flows facts step tag net.places limits (suc k) kids (round facts step tag net limits kids start k)

    grows : (j k : ℕ) → j ≤ k → Below (R j) (R k)
    unfolding R
    grows j k h = round-below facts step step tag (grows-refl step) net limits kids start j k h

    made-more : (j k : ℕ) → j ≤ k → total (fired_of (F j)) ≤ total (fired_of (F k))
    unfolding R F
    made-more j k h = total-more (F j) (F k) (flows-more net.places limits (suc j) (suc k) (omega arith) kids (R j) (R k) (grows j k h))

    -- a round that makes no more firings than the one before is the last
    last : (j i : ℕ) → total (fired_of (F j)) ≡ total (fired_of (F (suc j))) → R (suc (j + i)) ≡ R (suc j)
    unfolding R F round
    last j zero e = let a : suc (j + 0) ≡ suc j = omega arith in ap (λ k. R k) a
    last j (suc i) e =
        let a : suc (j + suc i) ≡ suc (suc (j + i)) = omega arith in
        let b : suc (suc (j + i)) ≡ suc (suc j + i) = omega arith in
        ap (λ k. R k) a ∙
        ap (λ X. refill (flows facts step tag net.places limits (suc (suc (j + i))) kids X) net.sources start) (last j i e) ∙
        ap (λ fs. refill fs net.sources start) (later (suc (suc (j + i))) (omega arith)) ∙
        same-refill (F j) (F (suc j)) (same-gave (F j) (F (suc j)) (flows-more net.places limits (suc j) (suc (suc j)) (omega arith) kids (R j) (R (suc j)) (grows j (suc j) (omega arith))) e) net.sources start
      where
        later : (k : ℕ) → suc j < k → flows facts step tag net.places limits k kids (R (suc j)) ≡ F (suc j)
        later k h = flows-last net.places limits j k h kids (R j) (R (suc j)) (grows j (suc j) (omega arith)) e

    still : (i : ℕ) → total (fired_of (F 0)) ≡ 0 → R i ≡ R 0
    unfolding R F round
    still zero e = refl
    still (suc i) e =
        ap (λ X. refill (flows facts step tag net.places limits (suc i) kids X) net.sources start) (still i e) ∙
        ap (λ fs. refill fs net.sources start) (flows-still net.places limits (suc i) (omega arith) kids start e) ∙
        nothing (F 0) (still-gave net.places limits kids start e) net.sources start
      where
        nothing-fed : (fs : List (Flow T S)) → ((i p : ℕ) → gave fs i p ≡ []) → (c : Source) → fed fs c ≡ []
        nothing-fed fs h (Own p) = refl
        nothing-fed fs h (Output i p) = h i p

        nothing : (fs : List (Flow T S)) → ((i p : ℕ) → gave fs i p ≡ []) → (cs : List Source) (X : Streams T) → refill fs cs X ≡ X
        nothing fs h [] X = refl
        nothing fs h (c ∷ cs) [] = refl
        nothing fs h (c ∷ cs) (xs ∷ X) = ap₂ (λ a b. a ∷ b) (ap (λ v. xs ++ v) (nothing-fed fs h c) ∙ append-nil xs) (nothing fs h cs X)

    -- each later round is the same, or so many firings are made at least
    IsLast : ℕ → Type 0
    IsLast j = (k : ℕ) → j ≤ k → R k ≡ R j

    last-or-made : (j : ℕ) → IsLast j ⊎ (j < total (fired_of (F j)))
    unfolding IsLast
    last-or-made zero = go (total (fired_of (F 0))) refl
      where
        go : (n : ℕ) → total (fired_of (F 0)) ≡ n → IsLast 0 ⊎ (0 < total (fired_of (F 0)))
        go zero e = inl (λ k h. still k e)
        go (suc n) e = inr (omega (arith, e))
    last-or-made (suc j) = go (last-or-made j)
      where
        cases : (a b : ℕ) → a ≤ b → (a ≡ b) ⊎ (a < b)
        cases a b h = grind arith

        later : total (fired_of (F j)) ≡ total (fired_of (F (suc j))) → IsLast (suc j)
        later e zero h = absurd (omega arith)
        later e (suc k) h = let a : suc k ≡ suc (j + (k - j)) = omega arith in ap (λ v. R v) a ∙ last j (k - j) e

        compared : (j < total (fired_of (F j))) → (total (fired_of (F j)) ≡ total (fired_of (F (suc j)))) ⊎ (total (fired_of (F j)) < total (fired_of (F (suc j)))) → IsLast (suc j) ⊎ (suc j < total (fired_of (F (suc j))))
        compared l (inl e) = inl (later e)
        compared l (inr m) = inr (omega (arith, l, m))

        go : IsLast j ⊎ (j < total (fired_of (F j))) → IsLast (suc j) ⊎ (suc j < total (fired_of (F (suc j))))
        go (inl h) = inl (λ k l. h k (omega arith) ∙ sym (h (suc j) (omega arith)))
        go (inr l) = compared l (cases _ _ (made-more j (suc j) (omega arith)))

    counts : (k : ℕ) → Below (R k) (R (total (fired_of (flows facts step tag net.places limits k kids (R k)))))
    unfolding R F IsLast
    counts k = go (cases k N)
      where
        N : ℕ
        N = total (fired_of (flows facts step tag net.places limits k kids (R k)))

        cases : (a b : ℕ) → (a ≤ b) ⊎ (b < a)
        cases a b = grind arith

        low : N < k → IsLast N ⊎ (N < total (fired_of (F N))) → Below (R k) (R N)
        low l (inl h) = subst (λ X. Below (R k) X) (h k (omega (arith, l))) (Below-refl (R k))
        low l (inr m) =
            let a = total-more (F N) (flows facts step tag net.places limits k kids (R k)) (flows-more net.places limits (suc N) k (omega (arith, l)) kids (R N) (R k) (grows N k (omega (arith, l)))) in
            absurd (omega (arith, m, a))

        go : (k ≤ N) ⊎ (N < k) → Below (R k) (R N)
        go (inl h) = grows k N h
        go (inr l) = low l (last-or-made N)

pub rounds-count : {T S : Type 0} → RoundsCount T S
unfolding R
rounds-count facts step tag net limits kids start k = counts facts step tag net limits kids start k
