-- Examples of SR.
use Rattle.std.specs.Prelude.{◌≡◌, ℕ, List, [], ◌∷◌, Option, Some, None, pos}
use Rattle.pt_meaning.specs.Net.{Own, Output}
use Rattle.pt_meaning.specs.Tree.{Node, actor}
use Rattle.pt_meaning.specs.Job.{Turn, Fire, Ends, Iterations, Inputs}
use Rattle.pt_meaning.specs.Schedule.{sr_top}
use Rattle.pt_examples.specs.Small.{Token, int, Act, Const, Sequence, Add, Accumulator, Repeat, Mux, Inverter, LastTick, ramp}
use Rattle.pt_examples.specs.Models.{sdf, sr, run, EndedBy, StuckIn, told, place, moment, timed}

-- Two muxes that feed each other, and the constants 5 and 7. In tick 0 the first takes the second's output, and the second 7; in tick 1 the second takes the first's, and the first 5.
abbrev pub muxes : Node Token Act
muxes =
    sr (Output 4 0 ∷ Output 1 0 ∷ Output 2 0 ∷ Output 5 0 ∷ Output 0 0 ∷ Output 3 0 ∷ []) (3 ∷ 3 ∷ 0 ∷ 0 ∷ 0 ∷ 0 ∷ []) 0
    (actor Mux ∷ actor Mux ∷ actor (Const (int 5)) ∷ actor (Const (int 7)) ∷ actor (Sequence (int 0 ∷ int 1 ∷ [])) ∷ actor (Sequence (int 1 ∷ int 0 ∷ [])) ∷ [])

-- an inverter on itself: its signal stays unknown
abbrev pub inverted_loop : Node Token Act
inverted_loop = sr (Output 0 0 ∷ []) (1 ∷ []) 0 (actor Inverter ∷ [])

-- the sum of the last tick's sum, at first absent, and 1: the loop is no zero-delay loop, since the delay answers early
abbrev pub counting : Node Token Act
counting = sr (Output 1 0 ∷ Output 2 0 ∷ Output 0 0 ∷ []) (2 ∷ 1 ∷ 0 ∷ []) 0 (actor (Add 2) ∷ actor (LastTick []) ∷ actor (Const (int 1)) ∷ [])

-- an iteration that gives two tokens on a port
abbrev pub two_in_a_tick : Node Token Act
two_in_a_tick = sr [] (0 ∷ []) 0 (sdf (Output 0 0 ∷ Output 1 0 ∷ []) (0 ∷ 1 ∷ []) (1 ∷ 1 ∷ []) [] (2 ∷ []) ((1 ∷ []) ∷ (2 ∷ []) ∷ []) (actor ramp ∷ actor (Repeat 2) ∷ []) ∷ [])

-- a running sum of an own input
abbrev pub input_sum : Node Token Act
input_sum = sr (Own 0 ∷ []) (1 ∷ []) 1 (actor (Accumulator (pos 0)) ∷ [])

-- the inputs of a top with two: 4, absent, 5, and 7 alone
abbrev pub two_inputs : List (List (Option Token))
two_inputs = (Some (int 4) ∷ None ∷ Some (int 5) ∷ []) ∷ (Some (int 7) ∷ []) ∷ []

-- what so many ticks on these inputs ask of a top next, after so many of them
abbrev pub asked : (iterations : ℕ) → List (List (Option Token)) → (made : ℕ) → Turn Token
asked iterations inputs made = sr_top iterations inputs made None input_sum

-- Each run by its recorded port, its trace and its end, and turns of tops.
pub record TickExamples : Type 0 where
  pub first_mux : told (run 4 (sr_top 2 []) muxes) (0 ∷ []) 0 ≡ (timed ((0, 0, 7) ∷ (1, 0, 5) ∷ []), EndedBy Iterations)
  pub second_mux : told (run 4 (sr_top 2 []) muxes) (1 ∷ []) 0 ≡ (timed ((0, 0, 7) ∷ (1, 0, 5) ∷ []), EndedBy Iterations)
  pub stays_unknown : told (run 3 (sr_top 1 []) inverted_loop) (0 ∷ []) 0 ≡ ([], StuckIn (place [] 0 36 ∷ []))
  pub counts : told (run 4 (sr_top 3 []) counting) (0 ∷ []) 0 ≡ (timed ((0, 0, 1) ∷ (1, 0, 2) ∷ (2, 0, 3) ∷ []), EndedBy Iterations)
  pub second_token : told (run 5 (sr_top 1 []) two_in_a_tick) (0 ∷ []) 0 ≡ ([], StuckIn (place (0 ∷ []) 0 35 ∷ []))
  -- the input is 4, absent, 5, and then at its end
  pub sums_inputs : told (run 5 (sr_top 9 ((Some (int 4) ∷ None ∷ Some (int 5) ∷ []) ∷ [])) input_sum) (0 ∷ []) 0 ≡ (timed ((0, 0, 4) ∷ (2, 0, 9) ∷ []), EndedBy Inputs)
  -- tick by tick, until the longest input is over or all ticks are made; a top without inputs ends by these alone
  pub both_present : asked 9 two_inputs 0 ≡ Fire (moment 0 0) ((int 4 ∷ []) ∷ (int 7 ∷ []) ∷ [])
  pub both_absent : asked 9 two_inputs 1 ≡ Fire (moment 1 0) ([] ∷ [] ∷ [])
  pub one_over : asked 9 two_inputs 2 ≡ Fire (moment 2 0) ((int 5 ∷ []) ∷ [] ∷ [])
  pub inputs_over : asked 9 two_inputs 3 ≡ Ends Inputs
  pub iterations_made : asked 3 two_inputs 3 ≡ Ends Iterations
  pub without_tokens : asked 9 ([] ∷ []) 0 ≡ Ends Inputs
  pub without_inputs : asked 9 [] 8 ≡ Fire (moment 8 0) []
