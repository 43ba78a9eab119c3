-- NonStrictDelay: its input at the last tick, absent where that was.
use Rattle.std.specs.Prelude.{List, Option, Some, codes}
use Rattle.pt_meaning.specs.Basics.{Tag, Streams}
use Rattle.pt_meaning.specs.Machine.{Need, Partial}
use Rattle.pt_meaning.specs.Node.{Answer}
use Rattle.pt_value.specs.declared.token.Token.{Token}
use Rattle.pt_firing.specs.Params.{value_under}
use Rattle.pt_firing.specs.Row.{one_each, token_at}
use Rattle.pt_flow_base.specs.declared.params.Params.{Params}
use Rattle.pt_lib_time.specs.declared.non_strict_delay.NonStrictDelay.{NonStrictDelay}
use Rattle.pt_lib_time.specs.Signal.{shows, told}

abbrev pub need : NonStrictDelay → Need
need actor = one_each actor.places

-- it gives what it keeps, and keeps this tick's input
abbrev pub step : Tag → NonStrictDelay → Streams Token → Answer Token NonStrictDelay
step tag actor X = shows (record actor { kept = token_at X 0 }) actor.kept

-- which is known at once
abbrev pub early : Tag → NonStrictDelay → List (Partial Token) → List (Partial Token)
early tag actor vs = told actor.kept

-- at first initialValue, or absent
abbrev pub start : Params → Option NonStrictDelay
start params = Some (record { kept = value_under (codes "initialValue") params.values; places = 1 })
