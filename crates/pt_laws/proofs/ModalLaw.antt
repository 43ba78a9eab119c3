-- The cases of a Modal keep the fuel law.
use Rattle.std.proofs.Common.{ℕ, List, [], ◌∷◌, Bool, true, false, nat_eq, Option, Some, None, if◌then◌else◌}
use Rattle.pt_meaning.specs.Basics.{Tag, Streams, Log, LogBelow, IsPrefix}
use Rattle.pt_meaning.specs.Machine.{Outcome, Done, Stuck, Stepping, Facts}
use Rattle.pt_meaning.specs.Laws.{Extends, Grows}
use Rattle.pt_meaning.specs.Modal.{Chart, Modes, Choice, Nothing, One, Wrong, Acted, Acts, Fails, chosen, taken, afterwards, below_number, on_refinement, at_refinement, with_refinement, preempted, modal, get}
use Rattle.pt_laws.proofs.RoundLaws.{extends-refl}
use Rattle.pt_laws.proofs.KahnLaws.{all_in-prefixed}
use Rattle.pt_laws.proofs.TickLaws.{recorded-extends}

-- a finished part of a log stays, whatever follows
below-prefix : {T : Type 0} (i : ℕ) (k l : Log T) → LogBelow k l → LogBelow (below_number i k) (below_number i l)
below-prefix i k l h [] = tt
below-prefix i k l h (j ∷ p) = go (nat_eq i j)
  where
    go : (b : Bool) → IsPrefix (if b then k p else []) (if b then l p else [])
    go true = h p
    go false = tt

module _ {T S : Type 0} (chart : Chart T) (facts : Facts T S) (step more : Stepping T S) where
  taken-log : (made : ℕ) (tag : Tag) (n : ℕ) (m : Modes T) (kids : List S) (l k : Log T) (a : Acted T) → LogBelow k l → Extends (Stuck [] k) (taken chart facts more made tag false n m kids l a)
  taken-log made tag n m kids l k (Acts out v) h = h
  taken-log made tag n m kids l k (Fails code) h = (λ f x. absurd x, h)

  after-log : (made : ℕ) (tag : Tag) (m : Modes T) (kids : List S) (inputs out : Streams T) (l k : Log T) (c : Choice) → LogBelow k l → Extends (Stuck [] k) (afterwards chart facts more made tag m kids inputs out l c)
  after-log made tag m kids inputs out l k Nothing h = h
  after-log made tag m kids inputs out l k (One n) h = taken-log made tag n m kids l k (chart.act false m.mode n m.values inputs out) h
  after-log made tag m kids inputs out l k (Wrong code) h = (λ f x. absurd x, h)

  on_refinement-extends : (made : ℕ) (tag : Tag) (i : ℕ) (m : Modes T) (kids : List S) (inputs : Streams T) (r r' : Outcome T S) → Extends r r' → Extends (on_refinement chart facts step made tag i m kids inputs r) (on_refinement chart facts more made tag i m kids inputs r')
  on_refinement-extends made tag i m kids inputs (Done s' out l) r' e = rw e (extends-refl (on_refinement chart facts step made tag i m kids inputs (Done s' out l)))
  on_refinement-extends made tag i m kids inputs (Stuck fs l) (Stuck gs k) e = (all_in-prefixed i fs gs e.0, below-prefix i l k e.1)
  on_refinement-extends made tag i m kids inputs (Stuck [] l) (Done s' out k) e = after-log made tag m _ inputs _ _ (below_number i l) _ (below-prefix i l k e)
  on_refinement-extends made tag i m kids inputs (Stuck (f ∷ fs) l) (Done s' out k) e = absurd e

  at_refinement-extends : Grows step more → (made : ℕ) (tag : Tag) (m : Modes T) (kids : List S) (inputs : Streams T) (i : ℕ) (o : Option S) → Extends (at_refinement chart facts step made tag m kids inputs i o) (at_refinement chart facts more made tag m kids inputs i o)
  at_refinement-extends g made tag m kids inputs i None = (λ f x. x, λ p. tt)
  at_refinement-extends g made tag m kids inputs i (Some s) = on_refinement-extends made tag i m kids inputs _ _ (recorded-extends (facts.made s) _ _ _ _ (g _ s _))

  refined-extends : Grows step more → (made : ℕ) (tag : Tag) (m : Modes T) (kids : List S) (inputs : Streams T) (i : Option ℕ) → Extends (with_refinement chart facts step made tag m kids inputs i) (with_refinement chart facts more made tag m kids inputs i)
  refined-extends g made tag m kids inputs None = extends-refl (with_refinement chart facts step made tag m kids inputs None)
  refined-extends g made tag m kids inputs (Some i) = at_refinement-extends g made tag m kids inputs i (get kids i)

  pub modal-extends : Grows step more → (made : ℕ) (tag : Tag) (m : Modes T) (kids : List S) (inputs : Streams T) → Extends (modal chart facts step made tag m kids inputs) (modal chart facts more made tag m kids inputs)
  modal-extends g made tag m kids inputs = go (chosen 0 (chart.preemptive m.mode m.values inputs))
    where
      go : (c : Choice) → Extends (preempted chart facts step made tag m kids inputs c) (preempted chart facts more made tag m kids inputs c)
      go Nothing = refined-extends g made tag m kids inputs (chart.refinement m.mode)
      go (One n) = extends-refl (preempted chart facts step made tag m kids inputs (One n))
      go (Wrong code) = extends-refl (preempted chart facts step made tag m kids inputs (Wrong code))
