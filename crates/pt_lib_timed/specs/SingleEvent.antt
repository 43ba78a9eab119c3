-- SingleEvent: a source of one event.
use Rattle.std.specs.Prelude.{Option, Some, None, option_map, ℤ, pos, unsigned_abs, codes, if◌then◌else◌}
use Rattle.std.specs.Option.{option_or}
use Rattle.pt_meaning.specs.Tag.{is_due}
use Rattle.pt_meaning.specs.Basics.{Tag, Streams}
use Rattle.pt_meaning.specs.Machine.{Need}
use Rattle.pt_meaning.specs.Node.{Answer}
use Rattle.pt_value.specs.declared.token.Token.{Token}
use Rattle.pt_value.specs.declared.token.Token.TheVariants.{Int}
use Rattle.pt_firing.specs.Params.{value_under, int_within}
use Rattle.pt_firing.specs.Row.{one_each}
use Rattle.pt_flow_base.specs.declared.params.Params.{Params}
use Rattle.pt_lib_timed.specs.declared.single_event.SingleEvent.{SingleEvent}
use Rattle.pt_lib_timed.specs.Signal.{shows, beginning, last_time}

abbrev pub need : SingleEvent → Need
need actor = one_each actor.places

-- the event is due at its time, and once it is given nothing is
abbrev pub next : SingleEvent → Option Tag
next actor = option_map (λ event. beginning actor.time) actor.event

-- the first firing at or after that gives it
abbrev pub step : Tag → SingleEvent → Streams Token → Answer Token SingleEvent
step tag actor X = if is_due tag (next actor) then shows (record actor { event = None }) actor.event else shows actor None

-- by its parameters time, else 0, and value, else 1
abbrev pub start_at : Option Token → Option ℤ → Option SingleEvent
start_at value (Some time) = Some (record { time = unsigned_abs time; event = option_or value (Some (Int (pos 1))); places = 0 })
start_at value None = None

abbrev pub start : Params → Option SingleEvent
start params = start_at (value_under (codes "value") params.values) (int_within (codes "time") (pos 0) (pos 0) last_time params.values)
