-- Models that aren't lawful, each with what goes wrong in it, and that the words of the laws refuse it. Each differs in one list or one number from a lawful model, and its run was worked by hand.
use Rattle.std.specs.Prelude.{◌≡◌, ℕ, List, [], ◌∷◌, Bool, true, false, Option, Some, pos}
use Rattle.pt_meaning.specs.Net.{Own, Output}
use Rattle.pt_meaning.specs.Modal.{Chart, Stay, unentered}
use Rattle.pt_meaning.specs.Transitions.{Reads, Transition, chart_of}
use Rattle.pt_meaning.specs.Tree.{Modal, Node, actor, composite}
use Rattle.pt_meaning.specs.Start.{IsAtStart}
use Rattle.pt_meaning.specs.Job.{Iterations, Inputs, Stop}
use Rattle.pt_meaning.specs.Schedule.{sr_top, de_top}
use Rattle.pt_laws.specs.Heights.{IsFitting}
use Rattle.pt_laws.specs.StartedRuns.{ArePlans}
use Rattle.pt_examples.specs.Small.{Token, int, Act, Const, Sequence, Scale, Accumulator, rows, clock}
use Rattle.pt_examples.specs.Modals.{always, counter, stop_and_go}
use Rattle.pt_examples.specs.Models.{sr, de, modal, run, EndedBy, StuckIn, told, place, timed}

-- The Modal that stops and goes, on the inputs 0, 0, 1, 0, 0, where it begins with these times and in this mode.
abbrev pub beginning : (history : Bool) → (mode : ℕ) → List Stay → Node Token Act
beginning history mode stays =
    sr (Output 0 0 ∷ []) (0 ∷ 1 ∷ []) 0
    (actor (Sequence (int 0 ∷ int 0 ∷ int 1 ∷ int 0 ∷ int 0 ∷ [])) ∷ composite (Modal (stop_and_go history) (record { mode = mode; values = []; stays = stays })) (counter ∷ []) ∷ [])

-- No times are listed for its refinement. So none is kept: its lag stays 0, and after its return at 3 tick 4 is its time 4 and not its time 1.
abbrev pub untimed : Node Token Act
untimed = beginning false 0 []

-- It begins in the mode hold, though its chart begins in run. Tick 0 leads to run, so that it counts in ticks 1 and 4 alone.
abbrev pub elsewhere : Node Token Act
elsewhere = beginning true 1 (unentered ∷ [])

-- One mode, with this refinement, and a transition to itself that gives 7 in place of what the refinement gave. What each own output has of the refinement is told by this list.
abbrev pub seven : Transition Token
seven = record { guard = always; outputs = record { target = 0; value = λ scope. Reads (int 7) } ∷ []; sets = []; target = 0; history = true }

abbrev pub giving_seven : (refinement : ℕ) → List (Option ℕ) → Chart Token
giving_seven refinement ports = chart_of 1 1 0 [] (record { refinement = Some refinement; preemptive = []; others = seven ∷ [] } ∷ []) (λ i. 0 ∷ []) (λ i. ports)

abbrev pub on_zeros : Chart Token → Node Token Act
on_zeros chart = sr (Output 0 0 ∷ []) (0 ∷ 1 ∷ []) 0 (actor (Sequence (int 0 ∷ int 0 ∷ [])) ∷ modal chart (counter ∷ []) ∷ [])

-- with an entry for its own output it gives 7 in each tick
abbrev pub with_port : Node Token Act
with_port = on_zeros (giving_seven 0 (Some 0 ∷ []))

-- Without one the action has no output in whose place it could put its 7, and is dropped.
abbrev pub without_port : Node Token Act
without_port = on_zeros (giving_seven 0 [])

-- Its mode names refinement 1, and there is one alone: nothing can fire, and no place is told.
abbrev pub without_refinement : Node Token Act
without_refinement = on_zeros (giving_seven 1 (Some 0 ∷ []))

-- A constant 5 that is to be doubled, but no channel ends at the place of the Scale. It fires on nothing, and gives nothing.
abbrev pub without_channel : Node Token Act
without_channel = sr [] (0 ∷ 1 ∷ []) 0 (actor (Const (int 5)) ∷ actor (Scale (pos 2)) ∷ [])

-- the same in DE, with a clock of value 5
abbrev pub without_event : Node Token Act
without_event = de [] (0 ∷ 1 ∷ []) 0 (actor (clock 2 ((0, int 5) ∷ [])) ∷ actor (Scale (pos 2)) ∷ [])

-- A running sum of own input 1, where there is own input 0 alone: the tokens 4 and 5 never come.
abbrev pub without_input : Node Token Act
without_input = sr (Own 1 ∷ []) (1 ∷ []) 1 (actor (Accumulator (pos 0)) ∷ [])

-- A channel that begins at child 2 of two: its signal stays unknown, and the composite is told to be in a loop.
abbrev pub without_source : Node Token Act
without_source = sr (Output 2 0 ∷ []) (0 ∷ 1 ∷ []) 0 (actor (Const (int 5)) ∷ actor (Scale (pos 2)) ∷ [])

-- One mode with a counter as its refinement, which reads own input 1 where there is own input 0 alone: it is never triggered.
abbrev pub without_trigger : Node Token Act
without_trigger = on_zeros (chart_of 1 1 0 [] (record { refinement = Some 0; preemptive = []; others = [] } ∷ []) (λ i. 1 ∷ []) (λ i. Some 0 ∷ []))

-- Each run by its recorded port, its trace and its end, and beside it what refuses the model.
pub record UnlawfulExamples : Type 0 where
  -- a Modal at its start: compare `local_tags` and `with_history` of the examples of Modal
  pub local_times_are_lost : told (run 7 (sr_top 5 []) untimed) (1 ∷ 0 ∷ 0 ∷ []) 0 ≡ (timed ((0, 0, 0) ∷ (1, 0, 1) ∷ (4, 0, 0) ∷ []), EndedBy Iterations)
  pub untimed_is_no_start : IsAtStart rows untimed → ⊥
  pub begins_late : told (run 7 (sr_top 5 []) elsewhere) (1 ∷ []) 0 ≡ (timed ((1, 0, 0) ∷ (4, 0, 1) ∷ []), EndedBy Iterations)
  pub elsewhere_is_no_start : IsAtStart rows elsewhere → ⊥
  -- the lists of a chart, and the numbers that it names
  pub gives_seven : told (run 4 (sr_top 2 []) with_port) (1 ∷ []) 0 ≡ (timed ((0, 0, 7) ∷ (1, 0, 7) ∷ []), EndedBy Iterations)
  pub action_is_dropped : told (run 4 (sr_top 2 []) without_port) (1 ∷ []) 0 ≡ ([], EndedBy Iterations)
  pub without_port_is_unfit : IsFitting without_port → ⊥
  pub stands_still : told (run 4 (sr_top 2 []) without_refinement) (1 ∷ []) 0 ≡ ([], StuckIn [])
  pub without_refinement_is_unfit : IsFitting without_refinement → ⊥
  -- places and channels
  pub gives_nothing : told (run 3 (sr_top 1 []) without_channel) (1 ∷ []) 0 ≡ ([], EndedBy Iterations)
  pub without_channel_is_unplanned : ArePlans without_channel → ⊥
  pub gives_nothing_at_events : told (run 4 (de_top rows (Some 1) []) without_event) (1 ∷ []) 0 ≡ ([], EndedBy Stop)
  pub without_event_is_unplanned : ArePlans without_event → ⊥
  pub sums_nothing : told (run 4 (sr_top 9 ((Some (int 4) ∷ Some (int 5) ∷ []) ∷ [])) without_input) (0 ∷ []) 0 ≡ ([], EndedBy Inputs)
  pub without_input_is_unplanned : ArePlans without_input → ⊥
  pub stays_unknown : told (run 3 (sr_top 1 []) without_source) (1 ∷ []) 0 ≡ ([], StuckIn (place [] 0 36 ∷ []))
  pub without_source_is_unplanned : ArePlans without_source → ⊥
  pub counts_nothing : told (run 4 (sr_top 2 []) without_trigger) (1 ∷ []) 0 ≡ ([], EndedBy Iterations)
  pub without_trigger_is_unplanned : ArePlans without_trigger → ⊥
