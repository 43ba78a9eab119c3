-- Examples of DE.
use Rattle.std.specs.Prelude.{◌≡◌, [], ◌∷◌, Some, None, pos}
use Rattle.pt_meaning.specs.Net.{Own, Output}
use Rattle.pt_meaning.specs.Tree.{Node, actor}
use Rattle.pt_meaning.specs.Job.{Stop, Idle, Fire, Limit}
use Rattle.pt_meaning.specs.Schedule.{de_top}
use Rattle.pt_examples.specs.Small.{Token, int, Act, Const, Add, Scale, Accumulator, Once, Delay, Server, rows, clock}
use Rattle.pt_examples.specs.Dataflow.{twice}
use Rattle.pt_examples.specs.Models.{de, run, EndedBy, StuckIn, told, moment, place, timed}

-- a clock of period 2 and a delay of 0: each event comes out one microstep later
abbrev pub next_microstep : Node Token Act
next_microstep = de (Output 0 0 ∷ []) (0 ∷ 1 ∷ []) 0 (actor (clock 2 ((0, int 1) ∷ [])) ∷ actor (Delay 0 []) ∷ [])

-- clocks of period 2 and 3, with values 1 and 10, and their sum: they meet at 0 and 6
abbrev pub clocks : Node Token Act
clocks = de (Output 0 0 ∷ Output 1 0 ∷ []) (0 ∷ 0 ∷ 2 ∷ []) 0 (actor (clock 2 ((0, int 1) ∷ [])) ∷ actor (clock 3 ((0, int 10) ∷ [])) ∷ actor (Add 2) ∷ [])

-- a queue at a desk: who comes at 0, 2, 4 leaves at 3, 6, 9
abbrev pub desk : Node Token Act
desk = de (Output 0 0 ∷ []) (0 ∷ 1 ∷ []) 0 (actor (clock 2 ((0, int 1) ∷ [])) ∷ actor (Server 3 []) ∷ [])

-- a single event, delayed, and then nothing
abbrev pub single_delayed : Node Token Act
single_delayed = de (Output 0 0 ∷ []) (0 ∷ 1 ∷ []) 0 (actor (Once ((5, int 7) ∷ [])) ∷ actor (Delay 2 []) ∷ [])

-- two tokens at one tag, out of an iteration, into a sum and into a delay
abbrev pub two_summed : Node Token Act
two_summed = de (Output 0 0 ∷ Output 1 0 ∷ []) (0 ∷ 1 ∷ 1 ∷ []) 0 (actor (clock 3 ((0, int 1) ∷ [])) ∷ twice ∷ actor (Accumulator (pos 0)) ∷ [])

abbrev pub two_delayed : Node Token Act
two_delayed = de (Output 0 0 ∷ Output 1 0 ∷ []) (0 ∷ 1 ∷ 1 ∷ []) 0 (actor (clock 10 ((0, int 1) ∷ [])) ∷ twice ∷ actor (Delay 1 []) ∷ [])

-- a delay of 2^62 from time 1 on
abbrev pub past_the_end : Node Token Act
past_the_end = de (Output 0 0 ∷ []) (0 ∷ 1 ∷ []) 0 (actor (clock 2 ((1, int 1) ∷ [])) ∷ actor (Delay 4611686018427387904 []) ∷ [])

-- an event at the greatest time
abbrev pub at_the_end : Node Token Act
at_the_end = de [] (0 ∷ []) 0 (actor (Once ((4611686018427387904, int 1) ∷ [])) ∷ [])

-- a constant below DE gives once, at the origin
abbrev pub constant : Node Token Act
constant = de (Output 0 0 ∷ []) (0 ∷ 1 ∷ []) 0 (actor (Const (int 5)) ∷ actor (Scale (pos 2)) ∷ [])

-- a running sum of input events
abbrev pub event_sum : Node Token Act
event_sum = de (Own 0 ∷ []) (1 ∷ []) 1 (actor (Accumulator (pos 0)) ∷ [])

-- Each run by its recorded port, its trace and its end.
pub record EventExamples : Type 0 where
  pub delays_by_microstep : told (run 8 (de_top rows (Some 4) []) next_microstep) (1 ∷ []) 0 ≡ (timed ((0, 1, 1) ∷ (2, 1, 1) ∷ (4, 1, 1) ∷ []), EndedBy Stop)
  pub clocks_meet : told (run 8 (de_top rows (Some 6) []) clocks) (2 ∷ []) 0 ≡ (timed ((0, 0, 11) ∷ (2, 0, 1) ∷ (3, 0, 10) ∷ (4, 0, 1) ∷ (6, 0, 11) ∷ []), EndedBy Stop)
  pub serves : told (run 12 (de_top rows (Some 10) []) desk) (1 ∷ []) 0 ≡ (timed ((3, 0, 1) ∷ (6, 0, 1) ∷ (9, 0, 1) ∷ []), EndedBy Stop)
  pub is_idle : told (run 8 (de_top rows None []) single_delayed) (1 ∷ []) 0 ≡ (timed ((7, 0, 7) ∷ []), EndedBy Idle)
  pub sums_in_order : told (run 4 (de_top rows (Some 2) []) two_summed) (2 ∷ []) 0 ≡ (timed ((0, 0, 1) ∷ (0, 0, 2) ∷ []), EndedBy Stop)
  pub passes_both : told (run 4 (de_top rows (Some 2) []) two_summed) (1 ∷ []) 0 ≡ (timed ((0, 0, 1) ∷ (0, 0, 1) ∷ []), EndedBy Stop)
  pub delays_both : told (run 4 (de_top rows (Some 4) []) two_delayed) (2 ∷ []) 0 ≡ (timed ((1, 0, 1) ∷ (1, 0, 1) ∷ []), EndedBy Stop)
  pub passes_the_end : told (run 4 (de_top rows None []) past_the_end) (1 ∷ []) 0 ≡ ([], StuckIn (place (1 ∷ []) 0 38 ∷ []))
  pub reaches_the_end : told (run 4 (de_top rows None []) at_the_end) (0 ∷ []) 0 ≡ (timed ((4611686018427387904, 0, 1) ∷ []), EndedBy Idle)
  pub gives_once : told (run 8 (de_top rows None []) constant) (1 ∷ []) 0 ≡ (timed ((0, 0, 10) ∷ []), EndedBy Idle)
  -- events at 1.0, 1.1 and 10.0: the last is past the stop time 9
  pub sums_events : told (run 8 (de_top rows (Some 9) (((moment 1 0, int 4) ∷ (moment 1 1, int 5) ∷ (moment 10 0, int 6) ∷ []) ∷ [])) event_sum) (0 ∷ []) 0 ≡ (timed ((1, 0, 4) ∷ (1, 1, 9) ∷ []), EndedBy Stop)
  -- a wake that isn't after the last tag is due one microstep later, and past the greatest microstep there is none
  pub one_microstep : de_top rows None [] 1 (Some (moment 3 4)) constant ≡ Fire (moment 3 5) []
  pub no_microstep : de_top rows None [] 1 (Some (moment 3 2147483648)) constant ≡ Limit
