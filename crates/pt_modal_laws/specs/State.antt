-- What contracts see of a core of a Modal: where the machine is, the wake of each refinement, and how far its reaction has come. The calls are functions of it.
use Rattle.std.specs.Prelude.{ℕ, List, [], Bool, true, false, length, set, get_or, Option, Some, None}
use Rattle.pt_meaning.specs.Tag.{Tag, origin}
use Rattle.pt_meaning.specs.Streams.{Streams}
use Rattle.pt_meaning.specs.Modal.{Chart, Modes, Stay, Choice, Nothing, One, Wrong, Acted, Acts, Fails, first_modes, chosen, change_if, fresh_unless, left_at, entered_at, picked, shown, unfired_outputs, modal_wake}

-- What a plan tells: the machine as it is written, which is data and is read as a chart, and the wake of each refinement at its start, which it has again once it is reset.
pub record ModalPlan (M : Type 0) : Type 0 where
  pub machine : M
  pub starts : List (Option Tag)

-- No firing is under way; the refinement of the mode is to fire, or was asked to; a transition without history was taken, and the refinement of its target is to be reset;
-- the reaction is over; its outputs may be handed out; or a guard or an action has failed, by the code of its fault.
pub data Stage : Type 0 where
  Idle : Stage
  Due : (refinement : ℕ) → Stage
  Asked : (refinement : ℕ) → Stage
  Resets : (refinement : ℕ) → Stage
  Over : Stage
  Closed : Stage
  Failed : (code : ℕ) → Stage

-- A core: its plan, where the machine is, the wakes of the refinements, each by its own time, the tag and the own inputs of the reaction, what its own outputs have, and the stage.
pub record ModalState (T M : Type 0) : Type 0 where
  pub plan : ModalPlan M
  pub modes : Modes T
  pub wakes : List (Option Tag)
  pub tag : Tag
  pub inputs : Streams T
  pub outputs : Streams T
  pub stage : Stage

-- the refinement that was asked to fire and not told yet
abbrev pub asked_child : Stage → Option ℕ
asked_child Idle = None
asked_child (Due i) = None
asked_child (Asked i) = Some i
asked_child (Resets i) = None
asked_child Over = None
asked_child Closed = None
asked_child (Failed code) = None

-- so many resets are to be asked for before the next firing
abbrev pub resets_in : Stage → ℕ
resets_in Idle = 0
resets_in (Due i) = 0
resets_in (Asked i) = 0
resets_in (Resets i) = 1
resets_in Over = 0
resets_in Closed = 0
resets_in (Failed code) = 0

-- after a transition: without history the refinement of its target is to be reset, if there is one
abbrev pub stage_after : (keeps : Bool) → Option ℕ → Stage
stage_after keeps None = Over
stage_after true (Some i) = Over
stage_after false (Some i) = Resets i

-- What came to the own inputs is kept where a refinement is to fire, for the guards over what it gives; once it is known what comes of the guards nobody asks for it.
abbrev pub kept_in : {T : Type 0} → Stage → Streams T → Streams T
kept_in Idle inputs = []
kept_in (Due i) inputs = inputs
kept_in (Asked i) inputs = []
kept_in (Resets i) inputs = []
kept_in Over inputs = []
kept_in Closed inputs = []
kept_in (Failed code) inputs = []

-- the times of the refinements once a transition was taken at a time: of the one that is left, and of the one that is entered, whose time starts again at 0 without history
abbrev pub moved_stays : (time : ℕ) → (keeps : Bool) → (left entered : Option ℕ) → List Stay → List Stay
moved_stays time keeps left entered stays = change_if entered (entered_at time) (change_if entered (fresh_unless keeps) (change_if left (left_at time) stays))

-- the parts of a state that a call changes
module _ {T M : Type 0} where
  -- no reaction is under way
  abbrev pub at_rest : ModalPlan M → Modes T → List (Option Tag) → ModalState T M
  at_rest plan modes wakes = record { plan = plan; modes = modes; wakes = wakes; tag = origin; inputs = []; outputs = []; stage = Idle }

  abbrev pub in_stage : Stage → ModalState T M → ModalState T M
  in_stage stage s = record { plan = s.plan; modes = s.modes; wakes = s.wakes; tag = s.tag; inputs = s.inputs; outputs = s.outputs; stage = stage }

  -- its own outputs have these tokens, and it is in this mode
  abbrev pub with_outcome : Modes T → Streams T → Stage → ModalState T M → ModalState T M
  with_outcome modes outputs stage s = record { plan = s.plan; modes = modes; wakes = s.wakes; tag = s.tag; inputs = s.inputs; outputs = outputs; stage = stage }

  -- a reaction begins at a tag on these inputs, and no guard is tested yet
  abbrev pub opened : Tag → Streams T → ModalState T M → ModalState T M
  opened tag inputs s = record { plan = s.plan; modes = s.modes; wakes = s.wakes; tag = tag; inputs = inputs; outputs = []; stage = Idle }

  -- once the reaction has begun
  abbrev pub pared : ModalState T M → ModalState T M
  pared s = record { plan = s.plan; modes = s.modes; wakes = s.wakes; tag = s.tag; inputs = kept_in s.stage s.inputs; outputs = s.outputs; stage = s.stage }

  -- child i has this wake
  abbrev pub with_wake : ℕ → Option Tag → ModalState T M → ModalState T M
  with_wake i wake s = record { plan = s.plan; modes = s.modes; wakes = set s.wakes i wake; tag = s.tag; inputs = s.inputs; outputs = s.outputs; stage = s.stage }

  -- the refinement i is reset: it has the wake of its start
  abbrev pub after_reset : ℕ → ModalState T M → ModalState T M
  after_reset i s = in_stage Over (with_wake i (get_or s.plan.starts i None) s)

  -- the own outputs are handed out, and the machine stays where it is
  abbrev pub closed : ModalState T M → ModalState T M
  closed s = at_rest s.plan s.modes s.wakes

-- the calls of a core, as functions on its states, by the chart as which its machine is read
module _ {T M : Type 0} (reads : M → Chart T) where
  abbrev pub chart_in : ModalState T M → Chart T
  chart_in s = reads s.plan.machine

  -- what the refinement that was asked to fire takes: the tokens of like-named inputs
  abbrev pub taken_by : ModalState T M → Option ℕ → Streams T
  taken_by s None = []
  taken_by s (Some i) = picked ((chart_in s).in_ports i) s.inputs

  abbrev pub started : ModalPlan M → ModalState T M
  started plan = at_rest plan (first_modes (reads plan.machine) (length plan.starts)) plan.starts

  abbrev pub restarted : ModalState T M → ModalState T M
  restarted s = started s.plan

  -- a transition is taken, by what its actions come to
  abbrev pub after_taken : (early : Bool) (transition : ℕ) → Acted T → ModalState T M → ModalState T M
  after_taken early n (Fails code) s = in_stage (Failed code) s
  after_taken early n (Acts out values) s =
      let chart = chart_in s in
      let to = chart.target early s.modes.mode n in
      let keeps = chart.keeps_history early s.modes.mode n in
      with_outcome (record { mode = to; values = values; stays = moved_stays s.tag.time keeps (chart.refinement s.modes.mode) (chart.refinement to) s.modes.stays }) out (stage_after keeps (chart.refinement to)) s

  -- by the guards that aren't preemptive, over what the refinement gave
  abbrev pub after_chosen : (given : Streams T) → Choice → ModalState T M → ModalState T M
  after_chosen given Nothing s = with_outcome s.modes given Over s
  after_chosen given (One n) s = after_taken false n ((chart_in s).act false s.modes.mode n s.modes.values s.inputs given) s
  after_chosen given (Wrong code) s = in_stage (Failed code) s

  abbrev pub after_given : (given : Streams T) → ModalState T M → ModalState T M
  after_given given s = after_chosen given (chosen 0 ((chart_in s).others s.modes.mode s.modes.values s.inputs given)) s

  -- no preemptive guard is enabled: the refinement is to fire, if there is one
  abbrev pub after_calm : Option ℕ → ModalState T M → ModalState T M
  after_calm None s = after_given (unfired_outputs (chart_in s)) s
  after_calm (Some i) s = in_stage (Due i) s

  -- by the preemptive guards
  abbrev pub after_preemptive : Choice → ModalState T M → ModalState T M
  after_preemptive Nothing s = after_calm ((chart_in s).refinement s.modes.mode) s
  after_preemptive (One n) s = after_taken true n ((chart_in s).act true s.modes.mode n s.modes.values s.inputs (unfired_outputs (chart_in s))) s
  after_preemptive (Wrong code) s = in_stage (Failed code) s

  abbrev pub begun : Tag → Streams T → ModalState T M → ModalState T M
  begun tag inputs s = pared (after_preemptive (chosen 0 ((chart_in s).preemptive s.modes.mode s.modes.values inputs)) (opened tag inputs s))

  -- the refinement i has fired and gave this on its ports
  abbrev pub after_told : ℕ → Streams T → Option Tag → ModalState T M → ModalState T M
  after_told i out wake s = after_given (shown ((chart_in s).out_ports i) out) (with_wake i wake s)

  -- the composite's own wake
  abbrev pub wake_of : ModalState T M → Option Tag
  wake_of s = modal_wake ((chart_in s).refinement s.modes.mode) s.modes.stays s.wakes
