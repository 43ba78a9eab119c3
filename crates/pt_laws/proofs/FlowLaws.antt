-- A stream function is monotone: in its streams, in the number of firings, and in the step.
use Rattle.std.proofs.Common.{◌≡◌, ℕ, zero, suc, ◌≤◌, List, [], ◌∷◌, Bool, true, false, nat_le, length, drop, refl, ap, arith, leb-true}
use Rattle.pt_meaning.specs.Basics.{Tag, Streams, IsPrefix, Below, Log, LogBelow, log_then, own}
use Rattle.pt_meaning.specs.Machine.{Need, Over, Counts, Any, Fault, Outcome, Done, Stuck, Stepping, Facts, Front, Lacks, Ends, Takes, front, counted, if_long}
use Rattle.pt_meaning.specs.Flow.{Stop, Lacking, Ended, Capped, Stopped, Flow, flow, after_firing, on_outcome, on_front}
use Rattle.pt_meaning.specs.Dataflow.{stop_faults}
use Rattle.pt_meaning.specs.Laws.{AllIn, Extends, Grows}
use Rattle.pt_laws.proofs.Order.{IsPrefix-trans, IsPrefix-after, IsPrefix-append, IsPrefix-long, IsPrefix-take, IsPrefix-drop, PortsBelow, PortsBelow-joined}

-- what more streams do to the front
abbrev pub FrontBelow : {T : Type 0} → Front T → Front T → Type 0
FrontBelow Lacks g = Unit {0}
FrontBelow Ends g = g ≡ Ends
FrontBelow {T} (Takes got left) g = (left' : Streams T) × (g ≡ Takes got left') × Below left left'

if_long-below : {T : Type 0} (b : Bool) (n : ℕ) (xs ys : List T) (f g : Front T) → nat_le n (length xs) ≡ b → IsPrefix xs ys → FrontBelow f g → FrontBelow (if_long b n xs f) (if_long (nat_le n (length ys)) n ys g)
if_long-below false n xs ys f g e p h = tt
if_long-below true n xs ys Lacks g e p h = tt
if_long-below true n xs ys Ends g e p h = rw (IsPrefix-long xs ys n p e, h) refl
if_long-below true n xs ys (Takes got left) g e p h =
    rw (IsPrefix-long xs ys n p e, h.1) (drop n ys ∷ h.0, ap (λ v. Takes (v ∷ got) (drop n ys ∷ h.0)) (IsPrefix-take n xs ys p (leb-true n (length xs) e)), (IsPrefix-drop n xs ys p, h.2))

counted-below : {T : Type 0} (ns : List ℕ) (X Y : Streams T) → Below X Y → FrontBelow (counted ns X) (counted ns Y)
counted-below [] [] [] p = ([], refl, tt)
counted-below (n ∷ ns) (xs ∷ X) (ys ∷ Y) p = if_long-below (nat_le n (length xs)) n xs ys (counted ns X) (counted ns Y) refl p.0 (counted-below ns X Y p.1)
counted-below [] (xs ∷ X) Y p = tt
counted-below (n ∷ ns) [] Y p = tt
counted-below [] [] (ys ∷ Y) p = absurd p
counted-below (n ∷ ns) (xs ∷ X) [] p = absurd p

pub front-below : {T : Type 0} (need : Need) (X Y : Streams T) → Below X Y → FrontBelow (front need X) (front need Y)
front-below Over X Y p = refl
front-below (Counts ns) X Y p = counted-below ns X Y p
front-below Any X Y p = tt

-- one flow below another
pub record FlowBelow {T S : Type 0} (f g : Flow T S) : Type 0 where
  pub outputs : PortsBelow f.outputs g.outputs
  pub log : LogBelow f.log g.log
  pub faults : AllIn (stop_faults f.stop) (stop_faults g.stop)

module _ {T S : Type 0} (facts : Facts T S) (step more : Stepping T S) (tag : Tag) (grows : Grows step more) where
  done-below : (go go' : S → Streams T → Flow T S) → ((s : S) (X Y : Streams T) → Below X Y → FlowBelow (go s X) (go' s Y)) →
      (out left left' : Streams T) (l : Log T) (s : S) → Below left left' → FlowBelow (after_firing out l (go s left)) (after_firing out l (go' s left'))
  done-below go go' ih out left left' l s b =
      let h = ih s left left' b in
      record {
        outputs = PortsBelow-joined out (go s left).outputs (go' s left').outputs h.outputs;
        log = λ p. IsPrefix-after (l p) ((go s left).log p) ((go' s left').log p) (h.log p);
        faults = h.faults;
      }

  outcome-below : (go go' : S → Streams T → Flow T S) → ((s : S) (X Y : Streams T) → Below X Y → FlowBelow (go s X) (go' s Y)) →
      (s : S) (X X' got left left' : Streams T) → Below left left' → (r r' : Outcome T S) → Extends r r' →
      FlowBelow (on_outcome facts step tag go s X got left r) (on_outcome facts more tag go' s X' got left' r')
  outcome-below go go' ih s X X' got left left' b (Done s' out l) r' e =
      rw e (done-below go go' ih out left left' (log_then l (own (record { number = facts.made s; tag = tag; inputs = got; outputs = out }))) s' b)
  outcome-below go go' ih s X X' got left left' b (Stuck fs l) (Stuck gs m) e = record { outputs = λ n. tt; log = e.1; faults = e.0 }
  outcome-below go go' ih s X X' got left left' b (Stuck [] l) (Done s' out m) e = record {
    outputs = λ n. tt;
    log = λ p.
        IsPrefix-trans (l p) (m p) _ (e p)
        (IsPrefix-trans (m p) _ _ (IsPrefix-append (m p) (own (record { number = facts.made s; tag = tag; inputs = got; outputs = out }) p)) (IsPrefix-append _ ((go' s' left').log p)));
    faults = λ f x. absurd x;
  }
  outcome-below go go' ih s X X' got left left' b (Stuck (f ∷ fs) l) (Done s' out m) e = absurd e

  front_flow-below : (go go' : S → Streams T → Flow T S) → ((s : S) (X Y : Streams T) → Below X Y → FlowBelow (go s X) (go' s Y)) →
      (s : S) (X X' : Streams T) → (f g : Front T) → FrontBelow f g → FlowBelow (on_front facts step tag go s X f) (on_front facts more tag go' s X' g)
  front_flow-below go go' ih s X X' Lacks g h = record { outputs = λ n. tt; log = λ p. tt; faults = λ f x. absurd x }
  front_flow-below go go' ih s X X' Ends g h = record { outputs = λ n. tt; log = λ p. tt; faults = λ f x. absurd x }
  front_flow-below go go' ih s X X' (Takes got left) g h =
      rw h.1 (outcome-below go go' ih s X X' got left h.0 h.2 (step tag s got) (more tag s got) (grows tag s got))

  pub flow-below : (n n' : ℕ) → n ≤ n' → (s : S) (X Y : Streams T) → Below X Y → FlowBelow (flow facts step tag n s X) (flow facts more tag n' s Y)
  unfolding flow
  flow-below zero n' h s X Y b = record { outputs = λ n. tt; log = λ p. tt; faults = λ f x. absurd x }
  flow-below (suc n) zero h s X Y b = absurd (omega arith)
  flow-below (suc n) (suc n') h s X Y b =
      front_flow-below (flow facts step tag n) (flow facts more tag n') (λ s' A B c. flow-below n n' (omega arith) s' A B c) s X Y
      (front (facts.need s) X) (front (facts.need s) Y) (front-below (facts.need s) X Y b)

-- where it stops otherwise than stuck, the step may grow, and it is the same
abbrev pub IsFree : Stop → Type 0
IsFree Lacking = Unit {0}
IsFree Ended = Unit {0}
IsFree Capped = Unit {0}
IsFree (Stopped fs) = ⊥

-- where it stops for want of a token, or is over, more firings are the same too
abbrev pub IsQuiet : Stop → Type 0
IsQuiet Lacking = Unit {0}
IsQuiet Ended = Unit {0}
IsQuiet Capped = ⊥
IsQuiet (Stopped fs) = ⊥

module _ {T S : Type 0} (facts : Facts T S) (step more : Stepping T S) (tag : Tag) (grows : Grows step more) where
  outcome-same : (Good : Stop → Type 0) (go go' : S → Streams T → Flow T S) → ((fs : List Fault) → Good (Stopped fs) → ⊥) → ((s : S) (X : Streams T) → Good (go s X).stop → go' s X ≡ go s X) →
      (s : S) (X got left : Streams T) → (r r' : Outcome T S) → Extends r r' →
      Good (on_outcome facts step tag go s X got left r).stop → on_outcome facts more tag go' s X got left r' ≡ on_outcome facts step tag go s X got left r
  outcome-same Good go go' bad ih s X got left (Done s' out l) r' e g =
      rw e (ap (λ v. after_firing out (log_then l (own (record { number = facts.made s; tag = tag; inputs = got; outputs = out }))) v) (ih s' left g))
  outcome-same Good go go' bad ih s X got left (Stuck fs l) r' e g = absurd (bad fs g)

  front-same : (Good : Stop → Type 0) (go go' : S → Streams T → Flow T S) → ((fs : List Fault) → Good (Stopped fs) → ⊥) → ((s : S) (X : Streams T) → Good (go s X).stop → go' s X ≡ go s X) →
      (s : S) (X : Streams T) (f : Front T) → Good (on_front facts step tag go s X f).stop → on_front facts more tag go' s X f ≡ on_front facts step tag go s X f
  front-same Good go go' bad ih s X Lacks g = refl
  front-same Good go go' bad ih s X Ends g = refl
  front-same Good go go' bad ih s X (Takes got left) g = outcome-same Good go go' bad ih s X got left (step tag s got) (more tag s got) (grows tag s got) g

  pub flow-same : (n : ℕ) (s : S) (X : Streams T) → IsFree (flow facts step tag n s X).stop → flow facts more tag n s X ≡ flow facts step tag n s X
  unfolding flow
  flow-same zero s X g = refl
  flow-same (suc n) s X g =
      front-same IsFree (flow facts step tag n) (flow facts more tag n) (λ fs h. h) (flow-same n) s X (front (facts.need s) X) g

  pub flow-quiet : (n n' : ℕ) → n ≤ n' → (s : S) (X : Streams T) → IsQuiet (flow facts step tag n s X).stop → flow facts more tag n' s X ≡ flow facts step tag n s X
  unfolding flow
  flow-quiet zero n' h s X g = absurd g
  flow-quiet (suc n) zero h s X g = absurd (omega arith)
  flow-quiet (suc n) (suc n') h s X g =
      front-same IsQuiet (flow facts step tag n) (flow facts more tag n') (λ fs k. k) (λ s' Y q. flow-quiet n n' (omega arith) s' Y q) s X (front (facts.need s) X) g
