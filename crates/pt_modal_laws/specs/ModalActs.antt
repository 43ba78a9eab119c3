-- The calls of the core as a driver knows them.
use Rattle.std.specs.Prelude.{◌≡◌, ℕ, ◌<◌, List, [], length, map, get_or, true, false, Some, None, IsSome}
use Rattle.pt_meaning.specs.Tag.{local}
use Rattle.pt_meaning.specs.Log.{Log, log_below}
use Rattle.pt_meaning.specs.Machine.{Counts}
use Rattle.pt_meaning.specs.Modal.{Chart, first_modes, lag_of}
use Rattle.pt_meaning.specs.Children.{numbered, child_facts}
use Rattle.pt_meaning.specs.Tree.{Rows, Node, list_of, heights, reset_of}
use Rattle.pt_meaning.specs.Tree as tree
use Rattle.pt_meaning.specs.NodeFacts.{facts_of, need_of, next_of}
use Rattle.pt_laws.specs.CompositeRuns.{steps_below}
use Rattle.pt_value.specs.declared.token.Token.{Token}
use Rattle.pt_firing.specs.declared.ask.Ask.{Ask}
use Rattle.pt_firing.specs.declared.ask.Ask.TheVariants as ask
use Rattle.pt_firing.specs.declared.fault.RunFault.TheVariants.{Ambiguous}
use Rattle.pt_firing.specs.RunFault.{code_of}
use Rattle.pt_records.specs.Kept.{Kept, AllGrewBy}
use Rattle.pt_records.specs.Fired.{FromSome}
use Rattle.pt_core.specs.Acts.{Beginning, Calls, Acts}
use Rattle.pt_core.specs.Reached.{AllAlways}
use Rattle.pt_modal_laws.specs.State.{ModalPlan, Stage, Idle, Due, Asked, Resets, Over, Closed, Failed, ModalState, asked_child, resets_in, in_stage, after_reset, closed, chart_in, taken_by, begun, after_told, restarted, wake_of}
use Rattle.pt_modal_laws.specs.Chain.{IsKnown, IsDue, due_from, firing_from}

abbrev pub State : Type 0 → Type 0
State M = ModalState Token M

-- it has so many places, where its need is a count for each
abbrev pub HasPlaces : {A : Type 0} → Rows Token A → ℕ → Node Token A → Type 0
HasPlaces rows places node = (ns : List ℕ) → need_of rows node ≡ Counts ns → length ns ≡ places

-- a firing is under way, and what comes next may be asked for
abbrev pub MayAsk : Stage → Type 0
MayAsk Idle = ⊥
MayAsk (Due i) = Unit {0}
MayAsk (Asked i) = ⊥
MayAsk (Resets i) = Unit {0}
MayAsk Over = Unit {0}
MayAsk Closed = ⊥
MayAsk (Failed code) = Unit {0}

-- What `ask` may answer, and the state after it. The refinement fires at its local tag.
abbrev pub Gives : {M : Type 0} → State M → Ask → Type 0
Gives s (ask.Fire child tag) = (s.stage ≡ Due child) × (tag ≡ local s.tag (lag_of s.modes.stays child))
Gives s (ask.Reset child) = s.stage ≡ Resets child
Gives s ask.Finished = s.stage ≡ Over
Gives s (ask.Faulted kind None) = s.stage ≡ Failed (code_of kind)
Gives s (ask.Faulted kind (Some child)) = ⊥
Gives s (ask.Early child tag) = ⊥
Gives s (ask.Get child) = ⊥
Gives s (ask.Put child) = ⊥
Gives s ask.Grow = ⊥
Gives s (ask.Meet meeting) = ⊥
Gives s ask.Await = ⊥
Gives s ask.Full = ⊥

abbrev pub asking : {M : Type 0} → Ask → State M → State M
asking (ask.Fire child tag) s = in_stage (Asked child) s
asking (ask.Reset child) s = after_reset child s
asking ask.Finished s = in_stage Closed s
asking (ask.Faulted kind child) s = s
asking (ask.Early child tag) s = s
asking (ask.Get child) s = s
asking (ask.Put child) s = s
asking ask.Grow s = s
asking (ask.Meet meeting) s = s
asking ask.Await s = s
asking ask.Full s = s

module _ {M : Type 0} (reads : M → Chart Token) where
  -- A plan fits these children, whatever they fire: a refinement that a mode names is one of them, and of each it tells the wake at the start, and an own input for each of its places.
  pub record Suits {A : Type 0} (rows : Rows Token A) (plan : ModalPlan M) (kids : List (Node Token A)) : Type 0 where
    pub children : length kids ≡ length plan.starts
    pub named : (mode i : ℕ) → (reads plan.machine).refinement mode ≡ Some i → i < length kids
    pub starts : AllAlways rows (λ i node. next_of rows (reset_of node) ≡ get_or plan.starts i None) kids
    pub places : AllAlways rows (λ i node. HasPlaces rows (length ((reads plan.machine).in_ports i)) node) kids

  -- It is known what the firing that began so comes to, and the plan fits the children as they are. A refinement that is to be reset is there. Each child has a log of its own, by which what is kept of it went on.
  pub record Settles {A : Type 0} (rows : Rows Token A) (b : Beginning A (State M)) (s : State M) (now : List (Node Token A)) (news : List (Kept Token)) : Type 0 where
    pub plan : s.plan ≡ b.before.plan
    pub suits : Suits rows b.before.plan now
    pub wakes : s.wakes ≡ map (next_of rows) now
    pub there : (i : ℕ) → s.stage ≡ Resets i → i < length now
    pub logs : List (Log Token)
    pub known : FromSome (λ k. (made : ℕ) → IsKnown (child_facts (facts_of rows)).reset made s (numbered 0 now) (log_below logs) (firing_from reads (child_facts (facts_of rows)) (steps_below rows k (heights b.kids) b.meets) made b.before (numbered 0 (list_of b.kids)) b.tag b.inputs))
    pub kept : AllGrewBy logs b.olds news

  -- the plan fits the children from which the firing began, and each has its wake
  pub record Begins {A : Type 0} (rows : Rows Token A) (b : Beginning A (State M)) : Type 0 where
    pub suits : Suits rows b.before.plan (list_of b.kids)
    pub wakes : b.before.wakes ≡ map (next_of rows) (list_of b.kids)
    pub kept : length (list_of b.kids) ≡ length b.olds

  -- The refinement is to fire, and no child has done anything; or it is known what the firing comes to.
  pub data Going {A : Type 0} (rows : Rows Token A) (b : Beginning A (State M)) : State M → List (Node Token A) → List (Kept Token) → Type 0 where
    Waits : (i : ℕ) → Begins rows b → IsDue reads b.before b.tag b.inputs i → Going rows b (due_from b.before b.tag b.inputs i) (list_of b.kids) b.olds
    Knows : (s : State M) (now : List (Node Token A)) (news : List (Kept Token)) → Settles rows b s now news → Going rows b s now news

  -- Whatever a refinement gives is accepted, so the fault of one that gives anything else is never told; and none is asked for an early answer. What a refinement needs says nothing to it, and no channel is full.
  abbrev pub modal_calls : Calls (State M)
  modal_calls = record {
    start_of = λ s. tree.Modal (chart_in reads s) (first_modes (chart_in reads s) (length s.plan.starts));
    core_of = λ s. tree.Modal (chart_in reads s) s.modes;
    IsIdle = λ s. s.stage ≡ Idle;
    Takes = λ s inputs. length inputs ≡ (chart_in reads s).inputs;
    begun = begun reads;
    MayAsk = λ s. MayAsk s.stage;
    Gives = Gives;
    asking = asking;
    asked_of = λ s. asked_child s.stage;
    lent_of = λ s. taken_by reads s (asked_child s.stage);
    handed = λ s. s;
    MayLend = λ s. IsSome (asked_child s.stage);
    listened_of = λ s. None;
    partial_of = λ s. [];
    accepts = λ s child out. true;
    refusal = λ s. Ambiguous;
    told = λ child out wake need. after_told reads child out wake;
    is_wrong = λ s. false;
    heard = λ child early s. s;
    MayFinish = λ s. s.stage ≡ Closed;
    own_of = λ s. s.outputs;
    closed = closed;
    wake = wake_of reads;
    restarted = restarted reads;
    waits = λ s. resets_in s.stage;
    maximum = λ s. 0;
    blocked = λ s. [];
    met = λ s. None;
  }

  -- The wakes are those of the children, of which that of the mode's refinement is the composite's, with the lag added.
  abbrev pub modal_acts : {A : Type 0} (rows : Rows Token A) → Acts rows (State M)
  modal_acts rows = record { calls = modal_calls; Fits = λ s kids. (s.stage ≡ Idle) × (s.wakes ≡ map (next_of rows) kids) × Suits rows s.plan kids; Underway = Going rows }
