-- AbsoluteValue: the distance of its input from 0.
use Rattle.std.specs.Prelude.{pos, nat_abs, Option, Some}
use Rattle.pt_meaning.specs.Basics.{Tag, Streams}
use Rattle.pt_meaning.specs.Machine.{Need}
use Rattle.pt_meaning.specs.Node.{Answer}
use Rattle.pt_value.specs.declared.token.Token.{Token}
use Rattle.pt_flow_numbers.specs.declared.absolute_value.AbsoluteValue.{AbsoluteValue}
use Rattle.pt_flow_base.specs.declared.params.Params.{Params}
use Rattle.pt_flow_base.specs.Row.{one_each, exactly, number_at, on_present}

abbrev pub need : AbsoluteValue → Need
need actor = one_each actor.places

abbrev pub step : Tag → AbsoluteValue → Streams Token → Answer Token AbsoluteValue
step tag actor X = on_present actor (λ input. exactly actor (pos (nat_abs input))) (number_at X 0)

abbrev pub start : Params → Option AbsoluteValue
start params = Some (record { places = 1 })
