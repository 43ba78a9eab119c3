-- The log of a step, of whatever fuel, is shut.
use Rattle.std.proofs.Common.{◌≡◌, ℕ, ◌+◌, ◌≤◌, [], ◌∷◌, ◌++◌, Some, None, sym, ap, subst, arith, ◌∙◌}
use Rattle.pt_meaning.specs.Tag.{Tag}
use Rattle.pt_meaning.specs.Streams.{Streams}
use Rattle.pt_meaning.specs.Log.{Log, LogBelow, firings_in, silent, log_then}
use Rattle.pt_meaning.specs.Machine.{Fault, Outcome, Done, Stuck}
use Rattle.pt_meaning.specs.Meetings.{Meets}
use Rattle.pt_meaning.specs.Tree.{Rows, Node, height, made_of}
use Rattle.pt_meaning.specs.Step.{step_at}
use Rattle.pt_meaning.specs.Closed.{Begun}
use Rattle.pt_meaning.specs.Lawful.{LawfulRows}
use Rattle.pt_meaning.specs.Laws.{Extends}
use Rattle.pt_laws.specs.LogsOfRuns.{log_in}
use Rattle.pt_laws.specs.WholeRuns.{ComesLater}
use Rattle.pt_laws.proofs.Order.{IsPrefix-refl}
use Rattle.pt_laws.proofs.JoinLaws.{log-assoc}
use Rattle.pt_laws.proofs.FuelLaw.{step_at-grows}
use Rattle.pt_laws.proofs.LevelLaws.{has-left, count-append}
use Rattle.pt_laws.proofs.ClosedSteps.{kept-made, sound-at, comes-at}
use Rattle.pt_laws.proofs.WholeSteps.{whole-at}
use Rattle.pt_laws.proofs.WholeMeaning.{log-behind}
use Rattle.pt_records.specs.Kept.{Kept}
use Rattle.pt_records.specs.Fired.{SticksAt, LeavesOff}
use Rattle.pt_records.specs.Shut.{IsShut, StepsAreShut}

-- an outcome that extends another has at least its log
pub extends-log : {T S : Type 0} (q r : Outcome T S) → Extends q r → LogBelow (log_in q) (log_in r)
extends-log (Done s out l) r x = subst (λ v. LogBelow l (log_in v)) (sym x) (λ p. IsPrefix-refl (l p))
extends-log (Stuck fs l) (Stuck gs n) x = x.1
extends-log (Stuck [] l) (Done s out n) x = x
extends-log (Stuck (f ∷ fs) l) (Done s out n) x = absurd x

-- where all of it comes later, so does its front
pub later-front : {T : Type 0} (l a b : Log T) → ComesLater l (log_then a b) → ComesLater l a
later-front l a b g p i r e h = g p i r e (has-left e (a _) (b _) h)

module _ {T A : Type 0} (rows : Rows T A) (law : LawfulRows rows) (m : Meets) (node : Node T A) where
  -- what comes later at each great fuel does so at each
  pub from-greater : (base log : Log T) (k₀ d : ℕ) → ((k : ℕ) → k₀ ≤ k → (tag : Tag) (X : Streams T) (more : Log T) → log_in (step_at rows k d m tag node X) ≡ log_then log more → ComesLater (log_then base log) more) →
      (k : ℕ) (tag : Tag) (X : Streams T) (more : Log T) → log_in (step_at rows k d m tag node X) ≡ log_then log more → ComesLater (log_then base log) more
  from-greater base log k₀ d f k tag X more same =
      let w = log-behind _ _ (extends-log _ _ (step_at-grows rows law k (k + k₀) (omega arith) d d (omega arith) m tag node X)) in
      let all : log_in (step_at rows (k + k₀) d m tag node X) ≡ log_then log (log_then more w.0) = w.1 ∙ ap (λ v. log_then v w.0) same ∙ sym (log-assoc log more w.0) in
      later-front (log_then base log) more w.0 (f (k + k₀) (omega arith) tag X (log_then more w.0) all)

  pub stepped-is-shut : (k d : ℕ) → d ≤ height node → (tag : Tag) (X : Streams T) → IsShut rows m node tag X None (log_in (step_at rows k d m tag node X))
  stepped-is-shut k d o tag X u n₀ l c =
      let s = sound-at rows law k d m in
      let w = s.under_way u n₀ node l c.fitting c.closed c.kept tag X in
      record {
        quiet = (s.own_path u n₀ node l c.fitting c.closed c.kept tag X).1;
        way = w.0;
        under = w.1;
        closed = w.2;
        comes = comes-at rows law k d m u n₀ node l c.fitting c.closed c.kept tag X;
        placed = λ f e. absurd (no-place f e);
        later = from-greater l (log_in (step_at rows k d m tag node X)) k (height node) (λ k' q tag' X' more same. (whole-at rows law k k' d (height node) q o m).whole u n₀ node l c.fitting c.closed c.kept tag tag' X X' more same);
      }
    where
      no-place : (f : Fault) → None ≡ Some f → ⊥
      no-place f e = cc

  -- so nothing is
  pub nothing-is-shut : (tag : Tag) (X : Streams T) → IsShut rows m node tag X None silent
  unfolding step_at
  nothing-is-shut tag X = stepped-is-shut 0 0 (omega arith) tag X

-- where a firing is left off it is so too as stuck at the node itself
pub at-own-place : {T A : Type 0} (rows : Rows T A) (m : Meets) (node : Node T A) (tag : Tag) (inputs : Streams T) (log : Log T) (f : Fault) → f.path ≡ [] → f.firing ≡ made_of node → IsShut rows m node tag inputs None log → IsShut rows m node tag inputs (Some f) log
at-own-place {T} {A} rows m node tag inputs log f here number shut u n₀ l c =
    let s = shut u n₀ l c in
    let made : firings_in (l [] ++ log []) ≡ made_of node = omega (arith, count-append (l []) (log []), s.quiet, kept-made rows u n₀ node l c.kept) in
    record {
      quiet = s.quiet;
      way = s.way;
      under = s.under;
      closed = s.closed;
      comes = s.comes;
      placed = λ g e.
          subst (λ (v : Fault). (firings_in (log_then l log v.path) ≡ v.firing) × (b : Begun T) × (s.way v.path ≡ Some b)) (same-place g e)
          (ap (λ p. firings_in (log_then l log p)) here ∙ made ∙ sym number, record { tag = tag; inputs = inputs }, ap (λ p. s.way p) here ∙ s.under);
      later = s.later;
    }
  where
    same-place : (g : Fault) → Some f ≡ Some g → f ≡ g
    same-place g e = cc

pub steps-are-shut : {T A : Type 0} → StepsAreShut T A
steps-are-shut = record { nothing = nothing-is-shut; stepped = λ rows law m node k tag X. stepped-is-shut rows law m node k (height node) (omega arith) tag X; own_place = at-own-place }

-- where a firing is stuck, it is left off with the same log
pub stuck-is-left-off : {T S : Type 0} (outcome : ℕ → Outcome T S) (IsPart : Log T → Type 0) (f : Fault) (old new : Kept T) → SticksAt outcome IsPart f old new → LeavesOff outcome IsPart old new
stuck-is-left-off outcome IsPart f old new s = record {
  log = s.log;
  beginning = (s.stuck.0, λ k o. let r = s.stuck.1 k o in subst (λ v. LogBelow s.log (log_in v)) (sym r.2) r.4);
  kept = s.kept;
  part = s.part;
}
