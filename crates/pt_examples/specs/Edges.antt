-- Models at the edges of the definitions. Each was worked by hand first, as the words above it tell.
use Rattle.std.specs.Prelude.{◌≡◌, suc, List, [], ◌∷◌, Bool, true, false, Option, Some, None, ℤ, pos, ◌+ℤ◌, ◌*ℤ◌}
use Rattle.pt_meaning.specs.Log.{Meeting, Channel}
use Rattle.pt_meaning.specs.Log as log
use Rattle.pt_meaning.specs.Net.{Own, Output}
use Rattle.pt_meaning.specs.Modal.{Test, Bad, Chart}
use Rattle.pt_meaning.specs.Transitions.{Scope, Action, Reading, Reads, Transition, Mode, input_in, variable_in, chart_of}
use Rattle.pt_meaning.specs.Transitions as transitions
use Rattle.pt_meaning.specs.Tree.{Node, actor}
use Rattle.pt_meaning.specs.Job.{Iterations, Stop, Idle, Deadlock}
use Rattle.pt_meaning.specs.Schedule.{sdf_top, sr_top, de_top, once_top}
use Rattle.pt_examples.specs.Small.{Token, Num, Array, int, number, Act, Const, Sequence, Add, Scale, Expression, Discard, Delay, Merge, Barrier, rows, clock, ramp}
use Rattle.pt_examples.specs.Dataflow.{twice}
use Rattle.pt_examples.specs.Networks.{inverse}
use Rattle.pt_examples.specs.Rendezvous.{of_top}
use Rattle.pt_examples.specs.Modals.{input_is, always, goes, with_variables, one_in_one_out, counter}
use Rattle.pt_examples.specs.Models.{sdf, pn, sr, de, rv, modal, run, run_under, Running, EndedBy, StuckIn, told, moment, place, at_origin, timed}

-- Two ways to a reset. The outer Modal has modes run, whose refinement is the inner Modal, and hold: to hold, preemptive, on 9; to run on 0.
-- The inner one has modes a, whose refinement is a counter, and b: to b on 1, with history; to a on 0, without history.
-- The inputs are 0, 0, 1, 0, 0, 9, 0, 0, 0. The counter gives 0, 1, 2 in ticks 0 to 2. In tick 2 the inner Modal goes to b, and in tick 3 back to a: the counter is reset, and gives 0 in tick 4.
-- In tick 5 the outer Modal goes to hold, and in tick 6 back to run. Without history the inner Modal and all within it are reset: 0 and 1 in ticks 7 and 8. With history the counter goes on: 1 and 2.
-- The counter's own time: 0, 1, 2; entered anew at 3, tick 4 is its time 1; the inner Modal's time begins anew at 6, so that ticks 7 and 8 are 1 and 2.
abbrev pub inner : Chart Token
inner =
    one_in_one_out
    (record { refinement = Some 0; preemptive = []; others = goes (input_is 1) 1 true ∷ [] } ∷
    record { refinement = None; preemptive = []; others = goes (input_is 0) 0 false ∷ [] } ∷ [])

abbrev pub outer : (history : Bool) → Chart Token
outer history =
    one_in_one_out
    (record { refinement = Some 0; preemptive = goes (input_is 9) 1 true ∷ []; others = [] } ∷
    record { refinement = None; preemptive = []; others = goes (input_is 0) 0 history ∷ [] } ∷ [])

abbrev pub two_resets : (history : Bool) → Node Token Act
two_resets history =
    sr (Output 0 0 ∷ []) (0 ∷ 1 ∷ []) 0
    (actor (Sequence (int 0 ∷ int 0 ∷ int 1 ∷ int 0 ∷ int 0 ∷ int 9 ∷ int 0 ∷ int 0 ∷ int 0 ∷ [])) ∷ modal (outer history) (modal inner (counter ∷ []) ∷ []) ∷ [])

-- A Merge with a starved input: the first source gives 1 and 2, the second is over from the start. Each token meets the Merge and then the Discard, and both channels of the Merge stay silent at the end.
abbrev pub starved : Node Token Act
starved =
    rv (Output 0 0 ∷ Output 1 0 ∷ Output 2 0 ∷ []) (0 ∷ 0 ∷ 2 ∷ 1 ∷ []) (false ∷ false ∷ false ∷ false ∷ []) []
    (actor (Sequence (int 1 ∷ int 2 ∷ [])) ∷ actor (Sequence []) ∷ actor (Merge 2) ∷ actor (Discard 1) ∷ [])

abbrev pub from_one_side : List Meeting
from_one_side = Channel 0 ∷ Channel 2 ∷ Channel 0 ∷ Channel 2 ∷ []

-- A Barrier of one channel: its meeting is the Barrier's own, and never one of the channel.
abbrev pub lone_barrier : Node Token Act
lone_barrier = rv (Output 0 0 ∷ Output 1 0 ∷ []) (0 ∷ 1 ∷ 1 ∷ []) (false ∷ true ∷ false ∷ []) [] (actor (Sequence (int 1 ∷ [])) ∷ actor (Barrier 1) ∷ actor (Discard 1) ∷ [])

-- One source on both channels of a Barrier: it can put on one of them at a time, so that they never meet.
abbrev pub one_source_barrier : Node Token Act
one_source_barrier = rv (Output 0 0 ∷ Output 0 0 ∷ Output 1 0 ∷ []) (0 ∷ 2 ∷ 1 ∷ []) (false ∷ true ∷ false ∷ []) [] (actor (Sequence (int 1 ∷ [])) ∷ actor (Barrier 2) ∷ actor (Discard 1) ∷ [])

-- A delay of 0 in a loop with a delay of 1: a single 1, and an adder that gets twice its own sum back. The sum is 1 at 0.0. It leaves the first delay at 0.1 and the second at 1.0, where the sum is 2; that leaves at 1.1 and at 2.0, where the sum is 4; that leaves the first at 2.1.
abbrev pub doubling_loop : Node Token Act
doubling_loop =
    de (Output 0 0 ∷ Output 4 0 ∷ Output 1 0 ∷ Output 2 0 ∷ Output 3 0 ∷ []) (0 ∷ 2 ∷ 1 ∷ 1 ∷ 1 ∷ []) 0
    (actor (clock 100 ((0, int 1) ∷ [])) ∷ actor (Add 2) ∷ actor (Delay 0 []) ∷ actor (Delay 1 []) ∷ actor (Scale (pos 2)) ∷ [])

-- The same loop with the delay of 0 alone: the sums 1, 2, 4 and so on come in the microsteps of time 0, and time stands still.
abbrev pub zeno : Node Token Act
zeno = de (Output 0 0 ∷ Output 3 0 ∷ Output 1 0 ∷ Output 2 0 ∷ []) (0 ∷ 2 ∷ 1 ∷ 1 ∷ []) 0 (actor (clock 100 ((0, int 1) ∷ [])) ∷ actor (Add 2) ∷ actor (Delay 0 []) ∷ actor (Scale (pos 2)) ∷ [])

-- A Modal re-entered at the same tag: two tokens at each of the tags 0.0, 2.0 and 4.0, so two reactions. The first fires the counter and goes off, the second goes on again.
-- With history the counter gives 0, 1, 2 at its times 0, 2, 4. Without history it gives 0 each time; entered anew at 0 and at 2, its times are 0, 2 and 2.
abbrev pub on_off : (history : Bool) → Chart Token
on_off history =
    one_in_one_out
    (record { refinement = Some 0; preemptive = []; others = goes always 1 true ∷ [] } ∷
    record { refinement = None; preemptive = []; others = goes always 0 history ∷ [] } ∷ [])

abbrev pub re_entered : (history : Bool) → Node Token Act
re_entered history = de (Output 0 0 ∷ Output 1 0 ∷ []) (0 ∷ 1 ∷ 1 ∷ []) 0 (actor (clock 2 ((0, int 1) ∷ [])) ∷ twice ∷ modal (on_off history) (counter ∷ []) ∷ [])

-- A Modal in a mode without a refinement gives nothing, which under SDF is another number of tokens than its rate.
abbrev pub silent_mode : Node Token Act
silent_mode =
    sdf (Output 0 0 ∷ Output 1 0 ∷ []) (0 ∷ 1 ∷ 1 ∷ []) (1 ∷ 1 ∷ 1 ∷ []) [] [] ((1 ∷ []) ∷ (1 ∷ []) ∷ [] ∷ [])
    (actor ramp ∷ modal (one_in_one_out (record { refinement = None; preemptive = []; others = [] } ∷ [])) [] ∷ actor (Discard 1) ∷ [])

-- A process that is over beside an endless one: the one token 5 is added to 0, and then the adder lacks a token for ever, while the Ramp goes on. At fuel 4 the Ramp has made four firings, and no fuel is enough.
abbrev pub over_beside_endless : Node Token Act
over_beside_endless = pn (Output 0 0 ∷ Output 1 0 ∷ []) (0 ∷ 0 ∷ 2 ∷ []) [] (actor (Sequence (int 5 ∷ [])) ∷ actor ramp ∷ actor (Add 2) ∷ [])

-- Wakes after a reset: a refinement of DE with a constant, which gives once at its time 0.0. Off on 1 and on again on 1, by a clock of period 2.
-- The constant gives at 0.0. The Modal goes off at 0, on at 2, off at 4 and on at 6. Without history the refinement is new at 2 and at 6, with a wake at its 0.0, which is not after the tag of the transition: it is due one microstep later, at 2.1 and 6.1. With history it has no wake.
abbrev pub constant_inside : Node Token Act
constant_inside = de (Own 0 ∷ Output 1 0 ∷ []) (1 ∷ 0 ∷ []) 1 (actor (Discard 1) ∷ actor (Const (int 7)) ∷ [])

abbrev pub by_ones : (history : Bool) → Chart Token
by_ones history =
    one_in_one_out
    (record { refinement = Some 0; preemptive = []; others = goes (input_is 1) 1 true ∷ [] } ∷
    record { refinement = None; preemptive = []; others = goes (input_is 1) 0 history ∷ [] } ∷ [])

abbrev pub woken_again : (history : Bool) → Node Token Act
woken_again history = de (Output 0 0 ∷ []) (0 ∷ 1 ∷ []) 0 (actor (clock 2 ((0, int 1) ∷ [])) ∷ modal (by_ones history) (constant_inside ∷ []) ∷ [])

-- Pending entries out of order: a refinement of DE around a delay of 0, off on 2 and on on 3, with history.
-- Token 1 at 0.0 leaves at 0.1. Token 2 at 0.5 is pending for 0.6, and the Modal goes off. It is on again at 5.0 with lag 5. Token 4 at 5.1 comes at the local 0.1 and is pending for 0.2, before the other: it leaves at 5.2, and token 2 at 5.6.
abbrev pub delaying : Node Token Act
delaying = de (Own 0 ∷ Output 0 0 ∷ []) (1 ∷ []) 1 (actor (Delay 0 []) ∷ [])

abbrev pub two_three : Chart Token
two_three =
    one_in_one_out
    (record { refinement = Some 0; preemptive = []; others = goes (input_is 2) 1 true ∷ [] } ∷
    record { refinement = None; preemptive = []; others = goes (input_is 3) 0 true ∷ [] } ∷ [])

abbrev pub out_of_order : Node Token Act
out_of_order = de (Own 0 ∷ []) (1 ∷ []) 1 (modal two_three (delaying ∷ []) ∷ [])

-- Guards: two that are enabled and then a faulty one. The fault decides.
abbrev pub faulty : Scope Token → Test
faulty scope = Bad 30

abbrev pub faulty_guard : Chart Token
faulty_guard = one_in_one_out (record { refinement = None; preemptive = goes always 0 true ∷ goes always 0 true ∷ goes faulty 0 true ∷ []; others = [] } ∷ [])

abbrev pub guarded : Node Token Act
guarded = sr (Output 0 0 ∷ []) (0 ∷ 1 ∷ []) 0 (actor (Sequence (int 7 ∷ [])) ∷ modal faulty_guard [] ∷ [])

-- Actions: the output is 1, then the input, then the Variable if it is 3 or more; the Variable becomes one more, and then twice that. At first the Variable is 0, and the inputs are 7, absent, 9.
-- Tick 0: the input 7 replaces 1, and the Variable becomes 2. Tick 1: the input is absent, so that 1 stays; the Variable becomes 6. Tick 2: the Variable 6 replaces the input 9, and becomes 14.
abbrev pub reading : Option Token → Reading Token
reading None = transitions.Absent
reading (Some x) = Reads x

abbrev pub computed : (ℤ → ℤ) → Option Token → Reading Token
computed f None = transitions.Absent
computed f (Some x) = Reads (Num (f (number x)))

abbrev pub if_three : Option Token → Reading Token
if_three (Some (Num (pos (suc (suc (suc n)))))) = Reads (int (suc (suc (suc n))))
if_three x = transitions.Absent

abbrev pub acting : Transition Token
acting = record {
  guard = always;
  outputs = record { target = 0; value = λ scope. Reads (int 1) } ∷ record { target = 0; value = λ scope. reading (input_in scope 0) } ∷ record { target = 0; value = λ scope. if_three (variable_in scope 0) } ∷ [];
  sets = record { target = 0; value = λ scope. computed (λ x. x +ℤ pos 1) (variable_in scope 0) } ∷ record { target = 0; value = λ scope. computed (λ x. x *ℤ pos 2) (variable_in scope 0) } ∷ [];
  target = 0;
  history = true;
}

abbrev pub actions : Node Token Act
actions = sr (Own 0 ∷ []) (1 ∷ []) 1 (modal (with_variables (int 0 ∷ []) (record { refinement = None; preemptive = []; others = acting ∷ [] } ∷ [])) [] ∷ [])

-- A fault in the third of three tokens at one tag: a network gives 2, 1, 0 at once, and the inverse fires three times. The first two firings stand in the log, with 0 and 1.
abbrev pub three_at_once : Node Token Act
three_at_once =
    de (Output 0 0 ∷ Output 1 0 ∷ []) (0 ∷ 1 ∷ 1 ∷ []) 0
    (actor (clock 10 ((0, int 1) ∷ [])) ∷ pn (Own 0 ∷ Output 1 0 ∷ []) (1 ∷ 0 ∷ []) (1 ∷ []) (actor (Discard 1) ∷ actor (Sequence (int 2 ∷ int 1 ∷ int 0 ∷ [])) ∷ []) ∷ actor (Expression 1 inverse) ∷ [])

-- Each run by its recorded port, its trace and its end.
pub record EdgeExamples : Type 0 where
  pub resets : told (run 10 (sr_top 9 []) (two_resets false)) (1 ∷ []) 0 ≡ (timed ((0, 0, 0) ∷ (1, 0, 1) ∷ (2, 0, 2) ∷ (4, 0, 0) ∷ (7, 0, 0) ∷ (8, 0, 1) ∷ []), EndedBy Iterations)
  pub resets_inside : told (run 10 (sr_top 9 []) (two_resets false)) (1 ∷ 0 ∷ 0 ∷ []) 0 ≡ (timed ((0, 0, 0) ∷ (1, 0, 1) ∷ (2, 0, 2) ∷ (1, 0, 0) ∷ (1, 0, 0) ∷ (2, 0, 1) ∷ []), EndedBy Iterations)
  pub resets_once : told (run 10 (sr_top 9 []) (two_resets true)) (1 ∷ []) 0 ≡ (timed ((0, 0, 0) ∷ (1, 0, 1) ∷ (2, 0, 2) ∷ (4, 0, 0) ∷ (7, 0, 1) ∷ (8, 0, 2) ∷ []), EndedBy Iterations)
  pub starves : told (run_under (of_top from_one_side) 3 (once_top []) starved) (2 ∷ []) 0 ≡ (at_origin (1 ∷ 2 ∷ []), EndedBy Deadlock)
  pub meets_alone : told (run_under (of_top (log.Barrier 1 ∷ Channel 1 ∷ [])) 3 (once_top []) lone_barrier) (1 ∷ []) 0 ≡ ((moment 0 0, Array (pos 1 ∷ [])) ∷ [], EndedBy Deadlock)
  pub no_channel_meeting : told (run_under (of_top (Channel 0 ∷ [])) 3 (once_top []) lone_barrier) (1 ∷ []) 0 ≡ ([], StuckIn [])
  pub never_meets : told (run_under (of_top []) 3 (once_top []) one_source_barrier) (1 ∷ []) 0 ≡ ([], EndedBy Deadlock)
  pub doubles_in_time : told (run 9 (de_top rows (Some 2) []) doubling_loop) (1 ∷ []) 0 ≡ (timed ((0, 0, 1) ∷ (1, 0, 2) ∷ (2, 0, 4) ∷ []), EndedBy Stop)
  pub leaves_next : told (run 9 (de_top rows (Some 2) []) doubling_loop) (2 ∷ []) 0 ≡ (timed ((0, 1, 1) ∷ (1, 1, 2) ∷ (2, 1, 4) ∷ []), EndedBy Stop)
  pub stands_still : told (run 7 (de_top rows (Some 2) []) zeno) (1 ∷ []) 0 ≡ (timed ((0, 0, 1) ∷ (0, 1, 2) ∷ (0, 2, 4) ∷ (0, 3, 8) ∷ (0, 4, 16) ∷ (0, 5, 32) ∷ (0, 6, 64) ∷ []), Running)
  pub re_enters : told (run 6 (de_top rows (Some 4) []) (re_entered true)) (2 ∷ 0 ∷ []) 0 ≡ (timed ((0, 0, 0) ∷ (2, 0, 1) ∷ (4, 0, 2) ∷ []), EndedBy Stop)
  pub re_enters_anew : told (run 6 (de_top rows (Some 4) []) (re_entered false)) (2 ∷ 0 ∷ []) 0 ≡ (timed ((0, 0, 0) ∷ (2, 0, 0) ∷ (2, 0, 0) ∷ []), EndedBy Stop)
  pub silence_is_no_rate : told (run 4 (sdf_top 1 [] []) silent_mode) (0 ∷ []) 0 ≡ (at_origin (0 ∷ []), StuckIn (place (1 ∷ []) 0 34 ∷ []))
  pub one_sum : told (run 4 (once_top []) over_beside_endless) (2 ∷ []) 0 ≡ (at_origin (5 ∷ []), StuckIn [])
  pub wakes_again : told (run 9 (de_top rows (Some 6) []) (woken_again false)) (1 ∷ []) 0 ≡ (timed ((0, 0, 7) ∷ (2, 1, 7) ∷ (6, 1, 7) ∷ []), EndedBy Stop)
  pub wakes_once : told (run 9 (de_top rows (Some 6) []) (woken_again true)) (1 ∷ []) 0 ≡ (timed ((0, 0, 7) ∷ []), EndedBy Stop)
  pub gives_what_is_due : told (run 9 (de_top rows (Some 9) (((moment 0 0, int 1) ∷ (moment 0 5, int 2) ∷ (moment 5 0, int 3) ∷ (moment 5 1, int 4) ∷ []) ∷ [])) out_of_order) (0 ∷ []) 0 ≡ (timed ((0, 1, 1) ∷ (5, 2, 4) ∷ (5, 6, 2) ∷ []), EndedBy Idle)
  pub fault_decides : told (run 4 (sr_top 1 []) guarded) (1 ∷ []) 0 ≡ ([], StuckIn (place (1 ∷ []) 0 30 ∷ []))
  pub acts_in_order : told (run 5 (sr_top 3 ((Some (int 7) ∷ None ∷ Some (int 9) ∷ []) ∷ [])) actions) (0 ∷ []) 0 ≡ (timed ((0, 0, 7) ∷ (1, 0, 1) ∷ (2, 0, 6) ∷ []), EndedBy Iterations)
  pub third_is_faulty : told (run 5 (de_top rows (Some 2) []) three_at_once) (2 ∷ []) 0 ≡ (timed ((0, 0, 0) ∷ (0, 0, 1) ∷ []), StuckIn (place (2 ∷ []) 2 30 ∷ []))
