-- AddSubtract: the sum of the present plus inputs without the present minus inputs. The plus inputs stand before the minus inputs.
use Rattle.std.specs.Prelude.{◌+◌, codes, Option, Some}
use Rattle.pt_meaning.specs.Basics.{Tag, Streams}
use Rattle.pt_meaning.specs.Machine.{Need}
use Rattle.pt_meaning.specs.Node.{Answer}
use Rattle.pt_value.specs.declared.token.Token.{Token}
use Rattle.pt_flow_numbers.specs.declared.add_subtract.AddSubtract.{AddSubtract}
use Rattle.pt_flow_base.specs.declared.params.Params.{Params}
use Rattle.pt_firing.specs.Params.{channels_to}
use Rattle.pt_flow_base.specs.Row.{one_each, exactly, on_present, sum_of}

abbrev pub need : AddSubtract → Need
need actor = one_each actor.places

abbrev pub step : Tag → AddSubtract → Streams Token → Answer Token AddSubtract
step tag actor X = on_present actor (exactly actor) (sum_of actor.plus X)

abbrev pub start : Params → Option AddSubtract
start params =
    let plus = channels_to (codes "plus") params.ports in
    Some (record { plus = plus; places = plus + channels_to (codes "minus") params.ports })
