-- Accumulator: the sum of all inputs since the start or the last true reset, given where an input is present. The input stands before the reset.
use Rattle.std.specs.Prelude.{false, unwrap_or, ℤ, ◌+ℤ◌, Option, Some, None, if◌then◌else◌, ℕ, ◌+◌, codes, pos}
use Rattle.pt_meaning.specs.Basics.{Tag, Streams}
use Rattle.pt_meaning.specs.Machine.{Need}
use Rattle.pt_meaning.specs.Node.{Answer}
use Rattle.pt_value.specs.declared.token.Token.{Token}
use Rattle.pt_flow_numbers.specs.declared.accumulator.Accumulator.{Accumulator}
use Rattle.pt_flow_base.specs.declared.params.Params.{Params}
use Rattle.pt_firing.specs.Params.{int_or, channels_to}
use Rattle.pt_flow_base.specs.Row.{one_each, rests, exactly, number_at, truth_at}

abbrev pub need : Accumulator → Need
need actor = one_each actor.places

-- the sum before the input is added: a true reset brings it back to its start
abbrev pub before : Accumulator → Streams Token → ℤ
before actor X = if unwrap_or (truth_at X 1) false then actor.init else actor.sum

-- with another sum
abbrev pub at_sum : Accumulator → ℤ → Accumulator
at_sum actor sum = record actor { sum = sum }

abbrev pub added : Accumulator → ℤ → Option ℤ → Answer Token Accumulator
added actor sum None = rests (at_sum actor sum)
added actor sum (Some n) = exactly (at_sum actor (sum +ℤ n)) (sum +ℤ n)

abbrev pub step : Tag → Accumulator → Streams Token → Answer Token Accumulator
step tag actor X = added actor (before actor X) (number_at X 0)

-- by its parameter init, else 0
abbrev pub start_by : Option ℤ → ℕ → Option Accumulator
start_by None resets = None
start_by (Some init) resets = Some (record { init = init; sum = init; places = resets + 1 })

abbrev pub start : Params → Option Accumulator
start params = start_by (int_or (codes "init") (pos 0) params.values) (channels_to (codes "reset") params.ports)
