-- Absent: a source that is absent at every tick.
use Rattle.std.specs.Prelude.{Option, Some}
use Rattle.pt_meaning.specs.Basics.{Tag, Streams}
use Rattle.pt_meaning.specs.Machine.{Need}
use Rattle.pt_meaning.specs.Node.{Answer}
use Rattle.pt_value.specs.declared.token.Token.{Token}
use Rattle.pt_firing.specs.Row.{one_each, rests}
use Rattle.pt_flow_base.specs.declared.params.Params.{Params}
use Rattle.pt_lib_time.specs.declared.absent.Absent.{Absent}

abbrev pub need : Absent → Need
need actor = one_each actor.places

abbrev pub step : Tag → Absent → Streams Token → Answer Token Absent
step tag actor X = rests actor

-- it has no inputs
abbrev pub start : Params → Option Absent
start params = Some (record { places = 0 })
