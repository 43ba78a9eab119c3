-- Pre: where its input is present, the present input before it.
use Rattle.std.specs.Prelude.{Option, Some, codes}
use Rattle.pt_meaning.specs.Basics.{Tag, Streams}
use Rattle.pt_meaning.specs.Machine.{Need}
use Rattle.pt_meaning.specs.Node.{Answer}
use Rattle.pt_value.specs.declared.token.Token.{Token}
use Rattle.pt_firing.specs.Params.{value_under}
use Rattle.pt_firing.specs.Row.{one_each, token_at, on_present}
use Rattle.pt_flow_base.specs.declared.params.Params.{Params}
use Rattle.pt_lib_time.specs.declared.pre.Pre.{Pre}
use Rattle.pt_lib_time.specs.Signal.{shows}

abbrev pub need : Pre → Need
need actor = one_each actor.places

-- it gives the present input that it keeps, and keeps this one
abbrev pub with_input : Pre → Token → Answer Token Pre
with_input actor token = shows (record actor { kept = Some token }) actor.kept

abbrev pub step : Tag → Pre → Streams Token → Answer Token Pre
step tag actor X = on_present actor (with_input actor) (token_at X 0)

-- before the first one there is initialValue, or nothing
abbrev pub start : Params → Option Pre
start params = Some (record { kept = value_under (codes "initialValue") params.values; places = 1 })
