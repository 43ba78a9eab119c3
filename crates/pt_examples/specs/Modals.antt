-- Examples of Modal.
use Rattle.std.specs.Prelude.{◌≡◌, ℕ, List, [], ◌∷◌, Bool, true, false, Option, Some, None, pos, negsuc, nat_eq}
use Rattle.pt_meaning.specs.Log.{Event, Finished, Met}
use Rattle.pt_meaning.specs.Net.{Own, Output}
use Rattle.pt_meaning.specs.Modal.{Test, Off, On, Chart}
use Rattle.pt_meaning.specs.Transitions.{Scope, Transition, Mode, input_in, output_in, chart_of}
use Rattle.pt_meaning.specs.Tree.{Node, actor}
use Rattle.pt_meaning.specs.Step.{no_meetings}
use Rattle.pt_meaning.specs.Job.{Iterations, Stop, meaning}
use Rattle.pt_meaning.specs.Schedule.{sr_top, de_top}
use Rattle.pt_examples.specs.Small.{Token, Num, int, Act, Ramp, Sequence, Discard, rows, clock}
use Rattle.pt_examples.specs.Models.{sdf, sr, de, modal, run, EndedBy, StuckIn, told, place, timed}

-- guards: a token is there, it is that number, and the guard that is always enabled; where a port is absent a guard is not enabled
abbrev pub on_if : Bool → Test
on_if true = On
on_if false = Off

abbrev pub is_there : Option Token → Test
is_there None = Off
is_there (Some x) = On

abbrev pub is_number : ℕ → Option Token → Test
is_number n None = Off
is_number n (Some (Num x)) = elim x [ pos k ↦ on_if (nat_eq k n) | negsuc k ↦ Off ]
is_number n (Some x) = Off

abbrev pub input_is : ℕ → Scope Token → Test
input_is n scope = is_number n (input_in scope 0)

abbrev pub has_output : Scope Token → Test
has_output scope = is_there (output_in scope 0)

abbrev pub always : Scope Token → Test
always scope = On

-- a transition without actions
abbrev pub goes : (Scope Token → Test) → (target : ℕ) (history : Bool) → Transition Token
goes guard target history = record { guard = guard; outputs = []; sets = []; target = target; history = history }

-- one input and one output, which are also those of each refinement, and Variables with these first values; it begins in mode 0
abbrev pub with_variables : List Token → List (Mode Token) → Chart Token
with_variables values modes = chart_of 1 1 0 values modes (λ i. 0 ∷ []) (λ i. Some 0 ∷ [])

-- the same without Variables
abbrev pub one_in_one_out : List (Mode Token) → Chart Token
one_in_one_out modes = with_variables [] modes

-- the refinement: a Ramp with a trigger, under SDF
abbrev pub counter : Node Token Act
counter = sdf (Own 0 ∷ Output 0 0 ∷ []) (1 ∷ []) (1 ∷ []) (1 ∷ []) (1 ∷ []) ((1 ∷ []) ∷ []) (actor (Ramp 1 None (pos 0)) ∷ [])

-- Mode run (0) with this refinement and mode hold (1) without one: run to hold, preemptive, on 1; hold to run on 0.
abbrev pub stop_and_go : (history : Bool) → Chart Token
stop_and_go history =
    one_in_one_out
    (record { refinement = Some 0; preemptive = goes (input_is 1) 1 history ∷ []; others = [] } ∷
    record { refinement = None; preemptive = []; others = goes (input_is 0) 0 history ∷ [] } ∷ [])

-- two preemptive transitions that are always enabled
abbrev pub ambiguous : Chart Token
ambiguous = one_in_one_out (record { refinement = Some 0; preemptive = goes always 1 true ∷ goes always 1 true ∷ []; others = [] } ∷ record { refinement = None; preemptive = []; others = [] } ∷ [])

-- under SR, by the inputs 0, 0, 1, 0, 0: it counts in ticks 0 and 1, goes to hold in tick 2, returns in tick 3, and counts in tick 4
abbrev pub below_source : Chart Token → Node Token Act
below_source chart = sr (Output 0 0 ∷ []) (0 ∷ 1 ∷ []) 0 (actor (Sequence (int 0 ∷ int 0 ∷ int 1 ∷ int 0 ∷ int 0 ∷ [])) ∷ modal chart (counter ∷ []) ∷ [])

-- the numbers of the firings
abbrev pub numbers : List (Event Token) → List ℕ
numbers [] = []
numbers (Finished ns f ∷ es) = f.number ∷ numbers es
numbers (Met ns n m ∷ es) = numbers es

-- Below DE: a clock of period 2 and value 1, and a refinement of DE with a clock of period 3 and a Discard of its input.
abbrev pub clocked : Node Token Act
clocked = de (Own 0 ∷ Output 1 0 ∷ []) (1 ∷ 0 ∷ []) 1 (actor (Discard 1) ∷ actor (clock 3 ((0, int 1) ∷ [])) ∷ [])

abbrev pub below_clock : Chart Token → Node Token Act
below_clock chart = de (Output 0 0 ∷ []) (0 ∷ 1 ∷ []) 0 (actor (clock 2 ((0, int 1) ∷ [])) ∷ modal chart (clocked ∷ []) ∷ [])

-- Mode on (0) with this refinement and mode off (1): on to off by the guard, off to on on 1, both with history.
abbrev pub on_and_off : (Scope Token → Test) → Chart Token
on_and_off guard =
    one_in_one_out
    (record { refinement = Some 0; preemptive = []; others = goes guard 1 true ∷ [] } ∷
    record { refinement = None; preemptive = []; others = goes (input_is 1) 0 true ∷ [] } ∷ [])

-- Each run by its recorded port, its trace and its end.
pub record ModalExamples : Type 0 where
  pub with_history : told (run 7 (sr_top 5 []) (below_source (stop_and_go true))) (1 ∷ []) 0 ≡ (timed ((0, 0, 0) ∷ (1, 0, 1) ∷ (4, 0, 2) ∷ []), EndedBy Iterations)
  pub without_history : told (run 7 (sr_top 5 []) (below_source (stop_and_go false))) (1 ∷ []) 0 ≡ (timed ((0, 0, 0) ∷ (1, 0, 1) ∷ (4, 0, 0) ∷ []), EndedBy Iterations)
  -- Within the refinement the tags are local: it is entered anew at 3, so that tick 4 is its time 1. Its firings are numbered on.
  pub local_tags : told (run 7 (sr_top 5 []) (below_source (stop_and_go false))) (1 ∷ 0 ∷ 0 ∷ []) 0 ≡ (timed ((0, 0, 0) ∷ (1, 0, 1) ∷ (1, 0, 0) ∷ []), EndedBy Iterations)
  pub numbered_on : numbers (meaning 7 rows no_meetings (sr_top 5 []) (below_source (stop_and_go false)) (1 ∷ 0 ∷ 0 ∷ [])) ≡ 0 ∷ 1 ∷ 2 ∷ []
  pub two_enabled : told (run 7 (sr_top 5 []) (below_source ambiguous)) (1 ∷ []) 0 ≡ ([], StuckIn (place (1 ∷ []) 0 37 ∷ []))
  -- off after 0, on after 2 with lag 2, off after 4, where its time was 2: its clock's next event, at its time 3, is not reached
  pub lags : told (run 8 (de_top rows (Some 6) []) (below_clock (on_and_off (input_is 1)))) (1 ∷ []) 0 ≡ (timed ((0, 0, 1) ∷ []), EndedBy Stop)
  -- off only where the refinement gave: on again after 2 with lag 2, and its time 3 is 5
  pub lags_and_wakes : told (run 8 (de_top rows (Some 6) []) (below_clock (on_and_off has_output))) (1 ∷ []) 0 ≡ (timed ((0, 0, 1) ∷ (5, 0, 1) ∷ []), EndedBy Stop)
