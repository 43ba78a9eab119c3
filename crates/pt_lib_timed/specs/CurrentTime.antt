-- CurrentTime: the time, where its trigger is present.
use Rattle.std.specs.Prelude.{Option, Some, pos, if◌then◌else◌}
use Rattle.pt_meaning.specs.Basics.{Tag, Streams}
use Rattle.pt_meaning.specs.Machine.{Need}
use Rattle.pt_meaning.specs.Node.{Answer}
use Rattle.pt_value.specs.declared.token.Token.{Token}
use Rattle.pt_firing.specs.Row.{one_each, is_present, exactly, rests}
use Rattle.pt_flow_base.specs.declared.params.Params.{Params}
use Rattle.pt_lib_timed.specs.declared.current_time.CurrentTime.{CurrentTime}

abbrev pub need : CurrentTime → Need
need actor = one_each actor.places

-- No time of a run is past 2^62, so it fits in an integer. One that doesn't is an overflow.
abbrev pub step : Tag → CurrentTime → Streams Token → Answer Token CurrentTime
step tag actor X = if is_present X 0 then exactly actor (pos tag.time) else rests actor

abbrev pub start : Params → Option CurrentTime
start params = Some (record { places = 1 })
