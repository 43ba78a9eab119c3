-- Own inputs of SDF composites that feed nothing: their tokens bound the iterations of a firing, and those that aren't used are kept. Each run was worked by hand first, as the words above it tell.
use Rattle.std.specs.Prelude.{◌≡◌, ℕ, List, [], ◌∷◌, map, Option, Some, None, pos}
use Rattle.pt_meaning.specs.Tag.{origin}
use Rattle.pt_meaning.specs.Streams.{Streams, get}
use Rattle.pt_meaning.specs.Log.{Event, Finished}
use Rattle.pt_meaning.specs.Net.{Own, Output}
use Rattle.pt_meaning.specs.Tree.{Node, actor}
use Rattle.pt_meaning.specs.Step.{no_meetings}
use Rattle.pt_meaning.specs.Start.{IsAtStart}
use Rattle.pt_meaning.specs.Job.{Turn, Fire, Ends, Schedule, Iterations, Inputs, Stop, meaning}
use Rattle.pt_meaning.specs.Schedule.{sdf_top, de_top}
use Rattle.pt_laws.specs.Heights.{IsFitting}
use Rattle.pt_laws.specs.StartedRuns.{ArePlans}
use Rattle.pt_examples.specs.Small.{Token, int, Act, Ramp, Scale, Discard, rows, clock, ramp}
use Rattle.pt_examples.specs.Models.{sdf, de, run, EndedBy, told, at_origin, timed}

-- a job that fires its top at the origin on each of these inputs in turn
abbrev pub turn_on : Option (Streams Token) → Turn Token
turn_on None = Ends Inputs
turn_on (Some X) = Fire origin X

abbrev pub on_each : List (Streams Token) → Schedule Token Act
on_each Xs n last top = turn_on (get Xs n)

-- integers on one port, and on two
abbrev pub one_port : List ℕ → Streams Token
one_port xs = map int xs ∷ []

abbrev pub two_ports : List ℕ → List ℕ → Streams Token
two_ports xs ys = map int xs ∷ map int ys ∷ []

-- Own input 0 into a Scale by 2, and from there to the own output. Own input 1 feeds nothing: the last channel begins at it, behind that to the own output, and ends nowhere. An iteration takes one token of each.
abbrev pub bounded : Node Token Act
bounded = sdf (Own 0 ∷ Output 0 0 ∷ Own 1 ∷ []) (1 ∷ []) (1 ∷ []) (1 ∷ 1 ∷ []) (1 ∷ []) ((1 ∷ []) ∷ []) (actor (Scale (pos 2)) ∷ [])

-- On 1, 2 and on 9 it makes one iteration, by the one 9. That gives 2; the token 2 is kept.
abbrev pub shorter : Streams Token
shorter = two_ports (1 ∷ 2 ∷ []) (9 ∷ [])

-- a Ramp alone, beside an own input that feeds nothing: it fires once for each token that comes there
abbrev pub driven : Node Token Act
driven = sdf (Own 0 ∷ []) (0 ∷ []) (1 ∷ []) (1 ∷ []) [] ((1 ∷ []) ∷ []) (actor ramp ∷ [])

-- A Ramp from 0 and one from 10 into that composite, and a Discard: in each of two iterations it takes a token of both, and gives 0 and then 2.
abbrev pub nested : Node Token Act
nested =
    sdf (Output 0 0 ∷ Output 1 0 ∷ Output 2 0 ∷ []) (0 ∷ 0 ∷ 2 ∷ 1 ∷ []) (1 ∷ 1 ∷ 1 ∷ 1 ∷ []) [] [] ((1 ∷ []) ∷ (1 ∷ []) ∷ (1 ∷ []) ∷ [] ∷ [])
    (actor ramp ∷ actor (Ramp 0 None (pos 10)) ∷ bounded ∷ actor (Discard 1) ∷ [])

-- its finished firing in an iteration: the token that it took of each input, and what it gave
abbrev pub in_iteration : (number a b : ℕ) → (output : ℕ) → Event Token
in_iteration number a b output = Finished (number ∷ []) (record { number = number; tag = origin; inputs = two_ports (a ∷ []) (b ∷ []); outputs = one_port (output ∷ []) })

-- Below DE, 5 at 0, 2, 4 and 6 on own input 0, and 7 at 0, 3 and 6 on own input 1. At 0 both come. The 5 of 2 waits for the 7 of 3, and that of 4 for the 7 of 6; the 5 of 6 is kept.
abbrev pub of_two_clocks : Node Token Act
of_two_clocks = de (Output 0 0 ∷ Output 1 0 ∷ []) (0 ∷ 0 ∷ 2 ∷ []) 0 (actor (clock 2 ((0, int 5) ∷ [])) ∷ actor (clock 3 ((0, int 7) ∷ [])) ∷ bounded ∷ [])

-- Each run by its recorded port, its trace and its end.
pub record UnfedExamples : Type 0 where
  -- the lists of its plan are lawful, and each of its channels holds nothing at the start
  pub fits : IsFitting bounded
  pub planned : ArePlans bounded
  pub starts : IsAtStart rows bounded
  pub fewest_bound : told (run 5 (on_each (shorter ∷ [])) bounded) (0 ∷ []) 0 ≡ (at_origin (2 ∷ []), EndedBy Inputs)
  -- a further token of input 1 makes one iteration more, on the token that was kept of input 0
  pub keeps_fed : told (run 5 (on_each (shorter ∷ two_ports [] (8 ∷ []) ∷ [])) bounded) (0 ∷ []) 0 ≡ (at_origin (2 ∷ 4 ∷ []), EndedBy Inputs)
  -- the 9 is gone: further tokens of input 0 alone make none
  pub takes_unfed : told (run 5 (on_each (shorter ∷ two_ports (3 ∷ []) [] ∷ [])) bounded) (0 ∷ []) 0 ≡ (at_origin (2 ∷ []), EndedBy Inputs)
  -- of 9, 8 and 7 the iteration takes the 9: two are kept, for the 3 and the 4, and none is left for the 5
  pub keeps_unfed : told (run 5 (on_each (two_ports (1 ∷ []) (9 ∷ 8 ∷ 7 ∷ []) ∷ two_ports (3 ∷ 4 ∷ 5 ∷ []) [] ∷ [])) bounded) [] 0 ≡ (at_origin (2 ∷ 6 ∷ 8 ∷ []), EndedBy Inputs)
  -- with nothing on input 1 no iteration is made, and all is kept: two tokens there make two later
  pub makes_none : told (run 5 (on_each (two_ports (1 ∷ 2 ∷ []) [] ∷ [])) bounded) (0 ∷ []) 0 ≡ ([], EndedBy Inputs)
  pub keeps_all : told (run 5 (on_each (two_ports (1 ∷ 2 ∷ []) [] ∷ two_ports [] (9 ∷ 8 ∷ []) ∷ [])) bounded) (0 ∷ []) 0 ≡ (at_origin (2 ∷ 4 ∷ []), EndedBy Inputs)
  pub drives_none : told (run 5 (on_each (one_port [] ∷ [])) driven) (0 ∷ []) 0 ≡ ([], EndedBy Inputs)
  pub drives_one : told (run 5 (on_each (one_port (9 ∷ []) ∷ [])) driven) (0 ∷ []) 0 ≡ (at_origin (0 ∷ []), EndedBy Inputs)
  pub drives_three : told (run 5 (on_each (one_port (9 ∷ 8 ∷ 7 ∷ []) ∷ [])) driven) (0 ∷ []) 0 ≡ (at_origin (0 ∷ 1 ∷ 2 ∷ []), EndedBy Inputs)
  pub takes_one_each : meaning 5 rows no_meetings (sdf_top 2 [] []) nested (2 ∷ []) ≡ in_iteration 0 0 10 0 ∷ in_iteration 1 1 11 2 ∷ []
  pub gives_nested : told (run 5 (sdf_top 2 [] []) nested) (2 ∷ 0 ∷ []) 0 ≡ (at_origin (0 ∷ 2 ∷ []), EndedBy Iterations)
  pub waits_for_both : told (run 7 (de_top rows (Some 6) []) of_two_clocks) (2 ∷ []) 0 ≡ (timed ((0, 0, 10) ∷ (3, 0, 10) ∷ (6, 0, 10) ∷ []), EndedBy Stop)
