-- Examples of SDF.
use Rattle.std.specs.Prelude.{◌≡◌, zero, suc, List, [], ◌∷◌, ◌++◌, None, ℤ, pos, negsuc, ◌*ℤ◌, ◌+ℤ◌}
use Rattle.pt_meaning.specs.Net.{Own, Output}
use Rattle.pt_meaning.specs.Tree.{Node, actor}
use Rattle.pt_meaning.specs.Step.{no_meetings}
use Rattle.pt_meaning.specs.Start.{IsAtStart}
use Rattle.pt_meaning.specs.Job.{Iterations, Inputs, meaning}
use Rattle.pt_meaning.specs.Headline.{count_in}
use Rattle.pt_meaning.specs.Schedule.{sdf_top}
use Rattle.pt_examples.specs.Small.{Token, Num, Array, Words, Record, int, Computed, Value, Faulty, Act, Const, Ramp, Add, Scale, Expression, SampleDelay, Repeat, ToArray, Discard, Absent, rows, ramp}
use Rattle.pt_examples.specs.Models.{sdf, pn, sr, run, EndedBy, StuckIn, told, moment, place, at_origin}

-- a Ramp into a Scale by 2
abbrev pub doubled : Node Token Act
doubled = sdf (Output 0 0 ∷ []) (0 ∷ 1 ∷ []) (1 ∷ 1 ∷ []) [] [] ((1 ∷ []) ∷ (1 ∷ []) ∷ []) (actor ramp ∷ actor (Scale (pos 2)) ∷ [])

-- A Ramp, each of its tokens twice, and arrays of three. An iteration makes 3, 3 and 2 firings: six tokens are two arrays.
abbrev pub arrays : Node Token Act
arrays = sdf (Output 0 0 ∷ Output 1 0 ∷ []) (0 ∷ 1 ∷ 1 ∷ []) (3 ∷ 3 ∷ 2 ∷ []) [] [] ((1 ∷ []) ∷ (2 ∷ []) ∷ (1 ∷ []) ∷ []) (actor ramp ∷ actor (Repeat 2) ∷ actor (ToArray 3) ∷ [])

-- an adder that gets its own sum back, by a delay with the first token 0, and the constant 1: 1, 2, 3
abbrev pub feedback : Node Token Act
feedback =
    sdf (Output 1 0 ∷ Output 0 0 ∷ Output 2 0 ∷ []) (1 ∷ 2 ∷ 0 ∷ []) (1 ∷ 1 ∷ 1 ∷ []) [] [] ((1 ∷ []) ∷ (1 ∷ []) ∷ (1 ∷ []) ∷ [])
    (actor (SampleDelay (int 0 ∷ [])) ∷ actor (Add 2) ∷ actor (Const (int 1)) ∷ [])

-- a Ramp into two Scales, by 2 and by 3
abbrev pub fork : Node Token Act
fork = sdf (Output 0 0 ∷ Output 0 0 ∷ []) (0 ∷ 1 ∷ 1 ∷ []) (1 ∷ 1 ∷ 1 ∷ []) [] [] ((1 ∷ []) ∷ (1 ∷ []) ∷ (1 ∷ []) ∷ []) (actor ramp ∷ actor (Scale (pos 2)) ∷ actor (Scale (pos 3)) ∷ [])

-- two Ramps, from 0 and from 10, and their sum
abbrev pub sums : Node Token Act
sums = sdf (Output 0 0 ∷ Output 1 0 ∷ []) (0 ∷ 0 ∷ 2 ∷ []) (1 ∷ 1 ∷ 1 ∷ []) [] [] ((1 ∷ []) ∷ (1 ∷ []) ∷ (1 ∷ []) ∷ []) (actor ramp ∷ actor (Ramp 0 None (pos 10)) ∷ actor (Add 2) ∷ [])

-- a Ramp from the greatest number of 64 bits
abbrev pub from_greatest : Node Token Act
from_greatest = sdf [] (0 ∷ []) (1 ∷ []) [] [] ((1 ∷ []) ∷ []) (actor (Ramp 0 None (pos 9223372036854775807)) ∷ [])

-- a Ramp into an expression
abbrev pub evaluating : (List Token → Computed) → Node Token Act
evaluating f = sdf (Output 0 0 ∷ []) (0 ∷ 1 ∷ []) (1 ∷ 1 ∷ []) [] [] ((1 ∷ []) ∷ (1 ∷ []) ∷ []) (actor ramp ∷ actor (Expression 1 f) ∷ [])

abbrev pub square_and_six : List Token → Computed
square_and_six (Num x ∷ []) = Value (Num ((x *ℤ x) +ℤ pos 6))
square_and_six xs = Faulty 30

-- 1 divided by a number: 1 and -1 for 1 and -1, 0 for a greater one, and a fault for 0
abbrev pub one_over : ℤ → Computed
one_over (pos zero) = Faulty 30
one_over (pos (suc zero)) = Value (int 1)
one_over (pos (suc (suc n))) = Value (int 0)
one_over (negsuc zero) = Value (Num (negsuc 0))
one_over (negsuc (suc n)) = Value (int 0)

abbrev pub inverse_of_one_less : List Token → Computed
inverse_of_one_less (Num x ∷ []) = one_over (x +ℤ negsuc 0)
inverse_of_one_less xs = Faulty 30

-- a Ramp, records with its number and the text "k", and that text twice
abbrev pub with_text : List Token → Computed
with_text (Num x ∷ []) = Value (Record x (107 ∷ []))
with_text xs = Faulty 30

abbrev pub text_twice : List Token → Computed
text_twice (Record x w ∷ []) = Value (Words (w ++ w))
text_twice xs = Faulty 30

abbrev pub records : Node Token Act
records =
    sdf (Output 0 0 ∷ Output 1 0 ∷ []) (0 ∷ 1 ∷ 1 ∷ []) (1 ∷ 1 ∷ 1 ∷ []) [] [] ((1 ∷ []) ∷ (1 ∷ []) ∷ (1 ∷ []) ∷ [])
    (actor ramp ∷ actor (Expression 1 with_text) ∷ actor (Expression 1 text_twice) ∷ [])

-- arrays of two from an own input: of three tokens one stays unused
abbrev pub pairs : Node Token Act
pairs = sdf (Own 0 ∷ []) (1 ∷ []) (1 ∷ []) (2 ∷ []) [] ((1 ∷ []) ∷ []) (actor (ToArray 2) ∷ [])

-- an SDF composite that gives each token twice, between a Ramp and a Discard that fires twice in an iteration
abbrev pub twice : Node Token Act
twice = sdf (Own 0 ∷ Output 0 0 ∷ []) (1 ∷ []) (1 ∷ []) (1 ∷ []) (2 ∷ []) ((2 ∷ []) ∷ []) (actor (Repeat 2) ∷ [])

abbrev pub each_twice : Node Token Act
each_twice = sdf (Output 0 0 ∷ Output 1 0 ∷ []) (0 ∷ 1 ∷ 1 ∷ []) (1 ∷ 1 ∷ 2 ∷ []) [] [] ((1 ∷ []) ∷ (2 ∷ []) ∷ [] ∷ []) (actor ramp ∷ twice ∷ actor (Discard 1) ∷ [])

-- an SR composite that is absent on its output, where its rate is 1
abbrev pub never : Node Token Act
never = sr (Own 0 ∷ Output 1 0 ∷ []) (1 ∷ 0 ∷ []) 1 (actor (Discard 1) ∷ actor Absent ∷ [])

abbrev pub absent_output : Node Token Act
absent_output = sdf (Output 0 0 ∷ Output 1 0 ∷ []) (0 ∷ 1 ∷ 1 ∷ []) (1 ∷ 1 ∷ 1 ∷ []) [] [] ((1 ∷ []) ∷ (1 ∷ []) ∷ [] ∷ []) (actor ramp ∷ never ∷ actor (Discard 1) ∷ [])

-- a network that gives one token where its rate is 2
abbrev pub one_for_two : Node Token Act
one_for_two =
    sdf (Output 0 0 ∷ Output 1 0 ∷ []) (0 ∷ 1 ∷ 1 ∷ []) (1 ∷ 1 ∷ 2 ∷ []) [] [] ((1 ∷ []) ∷ (2 ∷ []) ∷ [] ∷ [])
    (actor ramp ∷ pn (Own 0 ∷ Output 0 0 ∷ []) (1 ∷ []) (1 ∷ []) (actor (Scale (pos 1)) ∷ []) ∷ actor (Discard 1) ∷ [])

-- Each run by its recorded port, its trace and its end.
pub record DataflowExamples : Type 0 where
  pub doubles : told (run 5 (sdf_top 3 [] []) doubled) (1 ∷ []) 0 ≡ (at_origin (0 ∷ 2 ∷ 4 ∷ []), EndedBy Iterations)
  -- three firings of the Ramp, three of the Scale, and three of the top
  pub nine_firings : count_in (meaning 5 rows no_meetings (sdf_top 3 [] []) doubled) doubled ≡ 9
  pub doubles_once : told (run 5 (sdf_top 1 [] []) doubled) (1 ∷ []) 0 ≡ (at_origin (0 ∷ []), EndedBy Iterations)
  pub no_iteration : told (run 5 (sdf_top 0 [] []) doubled) (1 ∷ []) 0 ≡ ([], EndedBy Iterations)
  pub makes_arrays : told (run 5 (sdf_top 1 [] []) arrays) (2 ∷ []) 0 ≡ ((moment 0 0, Array (pos 0 ∷ pos 0 ∷ pos 1 ∷ [])) ∷ (moment 0 0, Array (pos 1 ∷ pos 2 ∷ pos 2 ∷ [])) ∷ [], EndedBy Iterations)
  -- the delay's first token stands on its channel at the start
  pub starts : IsAtStart rows feedback
  pub counts : told (run 5 (sdf_top 3 [] []) feedback) (1 ∷ []) 0 ≡ (at_origin (1 ∷ 2 ∷ 3 ∷ []), EndedBy Iterations)
  pub forks_left : told (run 4 (sdf_top 2 [] []) fork) (1 ∷ []) 0 ≡ (at_origin (0 ∷ 2 ∷ []), EndedBy Iterations)
  pub forks_right : told (run 4 (sdf_top 2 [] []) fork) (2 ∷ []) 0 ≡ (at_origin (0 ∷ 3 ∷ []), EndedBy Iterations)
  pub adds : told (run 4 (sdf_top 3 [] []) sums) (2 ∷ []) 0 ≡ (at_origin (10 ∷ 12 ∷ 14 ∷ []), EndedBy Iterations)
  pub overflows : told (run 4 (sdf_top 2 [] []) from_greatest) (0 ∷ []) 0 ≡ (at_origin (9223372036854775807 ∷ []), StuckIn (place (0 ∷ []) 1 31 ∷ []))
  pub evaluates : told (run 4 (sdf_top 3 [] []) (evaluating square_and_six)) (1 ∷ []) 0 ≡ (at_origin (6 ∷ 7 ∷ 10 ∷ []), EndedBy Iterations)
  pub divides_by_zero : told (run 4 (sdf_top 3 [] []) (evaluating inverse_of_one_less)) (1 ∷ []) 0 ≡ ((moment 0 0, Num (negsuc 0)) ∷ [], StuckIn (place (1 ∷ []) 1 30 ∷ []))
  pub joins_texts : told (run 4 (sdf_top 2 [] []) records) (2 ∷ []) 0 ≡ ((moment 0 0, Words (107 ∷ 107 ∷ [])) ∷ (moment 0 0, Words (107 ∷ 107 ∷ [])) ∷ [], EndedBy Iterations)
  pub one_pair : told (run 4 (sdf_top 5 (2 ∷ []) ((int 1 ∷ int 2 ∷ int 3 ∷ []) ∷ [])) pairs) (0 ∷ []) 0 ≡ ((moment 0 0, Array (pos 1 ∷ pos 2 ∷ [])) ∷ [], EndedBy Inputs)
  pub gives_twice : told (run 4 (sdf_top 2 [] []) each_twice) (1 ∷ []) 0 ≡ (at_origin (0 ∷ 0 ∷ 1 ∷ 1 ∷ []), EndedBy Iterations)
  pub absent_is_no_rate : told (run 4 (sdf_top 1 [] []) absent_output) (1 ∷ []) 0 ≡ ([], StuckIn (place (1 ∷ []) 0 34 ∷ []))
  pub one_is_not_two : told (run 4 (sdf_top 1 [] []) one_for_two) (1 ∷ []) 0 ≡ ([], StuckIn (place (1 ∷ []) 0 34 ∷ []))
