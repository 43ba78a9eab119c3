-- A reaction by what comes of its guards: first the preemptive ones, then, where the mode has no refinement or once it was told, the others.
use Rattle.std.specs.Prelude.{◌≡◌, ℕ, List, [], Bool, true, false, Option, Some, None}
use Rattle.pt_meaning.specs.Streams.{Streams}
use Rattle.pt_meaning.specs.Modal.{Chart, Modes, picked, unfired_outputs}
use Rattle.pt_modal_laws.specs.State.{ModalState, Due, Over, Failed, in_stage, with_outcome, moved_stays, stage_after, chart_in}
use Rattle.pt_chart.specs.Reacted.{Reacted, Stays, Moves, Stops, reacted}

-- what comes first: the refinement is to fire on these lists, or it isn't, and this comes of the guards
pub data FirstStep (T : Type 0) : Type 0 where
  Fires : (refinement : ℕ) (lists : Streams T) → FirstStep T
  Comes : Reacted T → FirstStep T

-- what is kept of the inputs: all where the refinement is to fire
abbrev pub kept_for : {T : Type 0} → FirstStep T → Streams T → Streams T
kept_for (Fires i lists) inputs = inputs
kept_for (Comes r) inputs = []

-- the lists are what a refinement takes of these inputs
abbrev pub Picks : {T : Type 0} → Chart T → Streams T → FirstStep T → Type 0
Picks chart inputs (Fires i lists) = lists ≡ picked (chart.in_ports i) inputs
Picks chart inputs (Comes r) = Unit {0}

module _ {T : Type 0} (chart : Chart T) (modes : Modes T) (inputs : Streams T) where
  -- no preemptive guard is enabled: by the refinement of the mode
  abbrev pub by_refinement : (unfired : Streams T) → Option ℕ → FirstStep T
  by_refinement unfired None = Comes (reacted chart false modes.mode modes.values inputs unfired)
  by_refinement unfired (Some i) = Fires i (picked (chart.in_ports i) inputs)

  -- by what comes of the preemptive guards
  abbrev pub first_by : Reacted T → FirstStep T
  first_by (Stays unfired) = by_refinement unfired (chart.refinement modes.mode)
  first_by (Moves target history outputs values) = Comes (Moves target history outputs values)
  first_by (Stops code) = Comes (Stops code)

  abbrev pub first_step : FirstStep T
  first_step = first_by (reacted chart true modes.mode modes.values inputs (unfired_outputs chart))

module _ {T M : Type 0} (reads : M → Chart T) where
  -- a transition is taken
  abbrev pub moved : (target : ℕ) (history : Bool) → Streams T → List T → ModalState T M → ModalState T M
  moved target history outputs values s =
      let chart = chart_in reads s in
      with_outcome (record { mode = target; values = values; stays = moved_stays s.tag.time history (chart.refinement s.modes.mode) (chart.refinement target) s.modes.stays }) outputs (stage_after history (chart.refinement target)) s

  -- it is known what comes of the guards
  abbrev pub after_reacted : Reacted T → ModalState T M → ModalState T M
  after_reacted (Stays outputs) s = with_outcome s.modes outputs Over s
  after_reacted (Moves target history outputs values) s = moved target history outputs values s
  after_reacted (Stops code) s = in_stage (Failed code) s

  abbrev pub after_first : FirstStep T → ModalState T M → ModalState T M
  after_first (Fires i lists) s = in_stage (Due i) s
  after_first (Comes r) s = after_reacted r s
