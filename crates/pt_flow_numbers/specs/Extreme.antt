-- Maximum and Minimum: the greatest, or the least, of the present inputs.
use Rattle.std.specs.Prelude.{ℤ, int_le, List, [], ◌∷◌, Option, Some, None, if◌then◌else◌, codes}
use Rattle.pt_meaning.specs.Basics.{Tag, Streams}
use Rattle.pt_meaning.specs.Machine.{Need}
use Rattle.pt_meaning.specs.Node.{Answer}
use Rattle.pt_value.specs.declared.token.Token.{Token}
use Rattle.pt_value.specs.declared.token.Token.TheVariants.{Int}
use Rattle.pt_flow_numbers.specs.declared.extreme.Side.{Side}
use Rattle.pt_flow_numbers.specs.declared.extreme.Side.TheVariants.{Greatest, Least}
use Rattle.pt_flow_numbers.specs.declared.extreme.Extreme.{Extreme}
use Rattle.pt_flow_base.specs.declared.params.Params.{Params}
use Rattle.pt_firing.specs.Params.{channels_to}
use Rattle.pt_flow_base.specs.Row.{one_each, gives, present, on_present}

-- the greater, or the lesser, of two numbers
abbrev pub of_two : Side → ℤ → ℤ → ℤ
of_two Greatest a b = if int_le a b then b else a
of_two Least a b = if int_le a b then a else b

-- the best of some numbers, after one more, if there is one
abbrev pub better : Side → Option ℤ → Option ℤ → Option ℤ
better side best None = best
better side None (Some n) = Some n
better side (Some m) (Some n) = Some (of_two side m n)

-- the best of some numbers, after others
unfoldable pub best_of : Side → Option ℤ → List ℤ → Option ℤ
best_of side best [] = best
best_of side best (n ∷ ns) = best_of side (better side best (Some n)) ns

-- of the numbers that are present, if there are any
abbrev pub extreme : Side → Streams Token → Option ℤ
extreme side X = best_of side None (present X)

abbrev pub need : Extreme → Need
need actor = one_each actor.places

abbrev pub step : Tag → Extreme → Streams Token → Answer Token Extreme
step tag actor X = on_present actor (λ n. gives actor (Int n)) (extreme actor.side X)

abbrev pub start : Side → Params → Option Extreme
start side params = Some (record { side = side; places = channels_to (codes "input") params.ports })
