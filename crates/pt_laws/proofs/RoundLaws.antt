-- Rounds grow, and a settled round stays.
use Rattle.std.proofs.Common.{◌≡◌, ℕ, zero, suc, ◌≤◌, min, List, [], ◌∷◌, Bool, true, false, ◌&&◌, take, drop, Option, Some, None, refl, ap₂, subst, arith, leb-true}
use Rattle.pt_meaning.specs.Basics.{Tag, Streams, IsPrefix, Below, Log, LogBelow}
use Rattle.pt_meaning.specs.Machine.{Outcome, Done, Stuck, Stepping, Facts}
use Rattle.pt_meaning.specs.Flow.{Stop, Lacking, Ended, Capped, Stopped, Flow, flow, on_outcome, on_front}
use Rattle.pt_meaning.specs.Machine.{Front, Lacks, Ends, Takes, front}
use Rattle.pt_meaning.specs.Rounds.{Source, Own, Output, Net, Limit, within, rated, rated_outcome, if_rated, has_rates, gave, fed, refill, flows, round, at_rest, at_cap, all_at_rest}
use Rattle.pt_meaning.specs.Laws.{Extends, Grows}
use Rattle.pt_laws.proofs.Order.{IsPrefix-refl, IsPrefix-after, IsPrefix-append, Below-refl, Below-take, Below-drop}
use Rattle.pt_laws.proofs.FlowLaws.{FlowBelow, flow-below, flow-same, flow-quiet, IsFree, IsQuiet}

pub extends-refl : {T S : Type 0} (r : Outcome T S) → Extends r r
extends-refl (Done s out l) = refl
extends-refl (Stuck fs l) = (λ f h. h, λ p. IsPrefix-refl (l p))

pub grows-refl : {T S : Type 0} (step : Stepping T S) → Grows step step
grows-refl step tag s X = extends-refl (step tag s X)

if_rated-extends : {T S : Type 0} (b : Bool) (n : ℕ) (s : S) (out : Streams T) (l m : Log T) → LogBelow l m → Extends (Stuck [] l) (if_rated b n s out m)
if_rated-extends true n s out l m h = h
if_rated-extends false n s out l m h = (λ f x. absurd x, h)

rated_outcome-extends : {T S : Type 0} (ns : List ℕ) (n : ℕ) (r r' : Outcome T S) → Extends r r' → Extends (rated_outcome ns n r) (rated_outcome ns n r')
rated_outcome-extends ns n (Done s out l) r' e = rw e (extends-refl (rated_outcome ns n (Done s out l)))
rated_outcome-extends ns n (Stuck fs l) (Stuck gs m) e = e
rated_outcome-extends ns n (Stuck [] l) (Done s out m) e = if_rated-extends (has_rates ns out) n s out l m e
rated_outcome-extends ns n (Stuck (f ∷ fs) l) (Done s out m) e = absurd e

pub rated-grows : {T S : Type 0} (facts : Facts T S) (r : Option (List ℕ)) (step more : Stepping T S) → Grows step more → Grows (rated facts r step) (rated facts r more)
rated-grows facts None step more h tag s X = h tag s X
rated-grows facts (Some ns) step more h tag s X = rated_outcome-extends ns (facts.made s) (step tag s X) (more tag s X) (h tag s X)

within-mono : (c : Option ℕ) (k k' : ℕ) → k ≤ k' → within c k ≤ within c k'
within-mono None k k' h = h
within-mono (Some c) k k' h = omega arith

-- lists of flows
abbrev pub FlowsBelow : {T S : Type 0} → List (Flow T S) → List (Flow T S) → Type 0
FlowsBelow [] [] = Unit {0}
FlowsBelow (f ∷ fs) (g ∷ gs) = FlowBelow f g × FlowsBelow fs gs
FlowsBelow [] (g ∷ gs) = ⊥
FlowsBelow (f ∷ fs) [] = ⊥

pub gave-below : {T S : Type 0} (fs gs : List (Flow T S)) → FlowsBelow fs gs → (i port : ℕ) → IsPrefix (gave fs i port) (gave gs i port)
gave-below [] [] h i port = tt
gave-below (f ∷ fs) (g ∷ gs) h zero port = h.0.outputs port
gave-below (f ∷ fs) (g ∷ gs) h (suc i) port = gave-below fs gs h.1 i port
gave-below [] (g ∷ gs) h i port = absurd h
gave-below (f ∷ fs) [] h i port = absurd h

pub fed-below : {T S : Type 0} (fs gs : List (Flow T S)) → FlowsBelow fs gs → (c : Source) → IsPrefix (fed fs c) (fed gs c)
fed-below fs gs h (Own port) = tt
fed-below fs gs h (Output i port) = gave-below fs gs h i port

pub refill-below : {T S : Type 0} (fs gs : List (Flow T S)) → FlowsBelow fs gs → (cs : List Source) (X : Streams T) → Below (refill fs cs X) (refill gs cs X)
refill-below fs gs h [] X = Below-refl X
refill-below fs gs h (c ∷ cs) [] = tt
refill-below fs gs h (c ∷ cs) (xs ∷ X) = (IsPrefix-after xs (fed fs c) (fed gs c) (fed-below fs gs h c), refill-below fs gs h cs X)

pub below-refill : {T S : Type 0} (fs : List (Flow T S)) (cs : List Source) (X : Streams T) → Below X (refill fs cs X)
below-refill fs [] X = Below-refl X
below-refill fs (c ∷ cs) [] = tt
below-refill fs (c ∷ cs) (xs ∷ X) = (IsPrefix-append xs (fed fs c), below-refill fs cs X)

-- how often it fired
module _ {T S : Type 0} (facts : Facts T S) (step : Stepping T S) (tag : Tag) where
  outcome-fired : (n : ℕ) (go : S → Streams T → Flow T S) → ((s : S) (X : Streams T) → (go s X).fired ≤ n) → (s : S) (X got left : Streams T) (r : Outcome T S) → (on_outcome facts step tag go s X got left r).fired ≤ suc n
  outcome-fired n go ih s X got left (Done s' out l) = omega (arith, ih s' left)
  outcome-fired n go ih s X got left (Stuck fs l) = omega arith

  front-fired : (n : ℕ) (go : S → Streams T → Flow T S) → ((s : S) (X : Streams T) → (go s X).fired ≤ n) → (s : S) (X : Streams T) (f : Front T) → (on_front facts step tag go s X f).fired ≤ suc n
  front-fired n go ih s X Lacks = omega arith
  front-fired n go ih s X Ends = omega arith
  front-fired n go ih s X (Takes got left) = outcome-fired n go ih s X got left (step tag s got)

  pub flow-fired : (n : ℕ) (s : S) (X : Streams T) → (flow facts step tag n s X).fired ≤ n
  unfolding flow
  flow-fired zero s X = omega arith
  flow-fired (suc n) s X = front-fired n (flow facts step tag n) (flow-fired n) s X (front (facts.need s) X)

and-left : (a b : Bool) → (a && b) ≡ true → a ≡ true
and-left true b h = refl
and-left false b h = h

and-right : (a b : Bool) → (a && b) ≡ true → b ≡ true
and-right true b h = h
and-right false b h = absurd (cc)

module _ {T S : Type 0} (facts : Facts T S) (step more : Stepping T S) (tag : Tag) (grows : Grows step more) where
  -- a child at rest stays as it is
  cap-same : (c : Option ℕ) (k k' : ℕ) → k ≤ k' → (s : S) (X : Streams T) (fired : ℕ) → fired ≡ (flow facts step tag (within c k) s X).fired → Capped ≡ (flow facts step tag (within c k) s X).stop →
      at_cap c fired ≡ true → flow facts more tag (within c k') s X ≡ flow facts step tag (within c k) s X
  cap-same None k k' h s X fired e1 e2 r = absurd (cc)
  cap-same (Some n) k k' h s X fired e1 e2 r =
      let a : n ≤ fired = leb-true n fired r in
      let b : (flow facts step tag (min n k) s X).fired ≤ min n k = flow-fired facts step tag (min n k) s X in
      let d : min n k' ≡ min n k = omega arith in
      rw d (flow-same facts step more tag grows (min n k) s X (subst IsFree e2 tt))

  rest-cases : (c : Option ℕ) (k k' : ℕ) → k ≤ k' → (s : S) (X : Streams T) (fired : ℕ) (stop : Stop) → fired ≡ (flow facts step tag (within c k) s X).fired → stop ≡ (flow facts step tag (within c k) s X).stop →
      at_rest c fired stop ≡ true → flow facts more tag (within c k') s X ≡ flow facts step tag (within c k) s X
  rest-cases c k k' h s X fired Lacking e1 e2 r = flow-quiet facts step more tag grows (within c k) (within c k') (within-mono c k k' h) s X (subst IsQuiet e2 tt)
  rest-cases c k k' h s X fired Ended e1 e2 r = flow-quiet facts step more tag grows (within c k) (within c k') (within-mono c k k' h) s X (subst IsQuiet e2 tt)
  rest-cases c k k' h s X fired Capped e1 e2 r = cap-same c k k' h s X fired e1 e2 r
  rest-cases c k k' h s X fired (Stopped fs) e1 e2 r = absurd (cc)

  pub flow-rest : (c : Option ℕ) (k k' : ℕ) → k ≤ k' → (s : S) (X : Streams T) → at_rest c (flow facts step tag (within c k) s X).fired (flow facts step tag (within c k) s X).stop ≡ true →
      flow facts more tag (within c k') s X ≡ flow facts step tag (within c k) s X
  flow-rest c k k' h s X r = rest-cases c k k' h s X _ _ refl refl r

module _ {T S : Type 0} (facts : Facts T S) (step more : Stepping T S) (tag : Tag) (grows : Grows step more) where
  pub flows-below : (ns : List ℕ) (cs : List Limit) (k k' : ℕ) → k ≤ k' → (ss : List S) (X Y : Streams T) → Below X Y → FlowsBelow (flows facts step tag ns cs k ss X) (flows facts more tag ns cs k' ss Y)
  flows-below (n ∷ ns) (c ∷ cs) k k' h (s ∷ ss) X Y b = (
    flow-below facts (rated facts c.rates step) (rated facts c.rates more) tag (rated-grows facts c.rates step more grows) (within c.firings k) (within c.firings k') (within-mono c.firings k k' h) s (take n X) (take n Y) (Below-take n X Y b),
    flows-below ns cs k k' h ss (drop n X) (drop n Y) (Below-drop n X Y b),
  )
  flows-below [] cs k k' h ss X Y b = tt
  flows-below (n ∷ ns) [] k k' h ss X Y b = tt
  flows-below (n ∷ ns) (c ∷ cs) k k' h [] X Y b = tt

  pub flows-rest : (ns : List ℕ) (cs : List Limit) (k k' : ℕ) → k ≤ k' → (ss : List S) (X : Streams T) → all_at_rest cs (flows facts step tag ns cs k ss X) ≡ true → flows facts more tag ns cs k' ss X ≡ flows facts step tag ns cs k ss X
  flows-rest (n ∷ ns) (c ∷ cs) k k' h (s ∷ ss) X r =
      ap₂ (λ a b. a ∷ b)
      (flow-rest facts (rated facts c.rates step) (rated facts c.rates more) tag (rated-grows facts c.rates step more grows) c.firings k k' h s (take n X) (and-left _ _ r))
      (flows-rest ns cs k k' h ss (drop n X) (and-right _ _ r))
  flows-rest [] cs k k' h ss X r = refl
  flows-rest (n ∷ ns) [] k k' h ss X r = refl
  flows-rest (n ∷ ns) (c ∷ cs) k k' h [] X r = refl

  pub round-below : (net : Net) (cs : List Limit) (kids : List S) (X : Streams T) (k k' : ℕ) → k ≤ k' → Below (round facts step tag net cs kids X k) (round facts more tag net cs kids X k')
  unfolding round
  round-below net cs kids X zero zero h = Below-refl X
  round-below net cs kids X zero (suc k') h = below-refill _ net.sources X
  round-below net cs kids X (suc k) zero h = absurd (omega arith)
  round-below net cs kids X (suc k) (suc k') h =
      refill-below _ _ (flows-below net.places cs (suc k) (suc k') h kids _ _ (round-below net cs kids X k k' (omega arith))) net.sources X
