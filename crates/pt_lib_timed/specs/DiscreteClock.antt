-- DiscreteClock: a source of events that come again in each period.
use Rattle.std.specs.Prelude.{ℕ, ◌+◌, ◌*◌, nat_lt, nat_eq, List, [], ◌∷◌, length, Option, Some, None, option_map, slice_get, ℤ, pos, unsigned_abs, codes, if◌then◌else◌}
use Rattle.pt_meaning.specs.Tag.{is_due, within_limits}
use Rattle.pt_meaning.specs.Basics.{Tag, Streams}
use Rattle.pt_meaning.specs.Machine.{Need}
use Rattle.pt_meaning.specs.Node.{Answer}
use Rattle.pt_value.specs.Value.{Value, Int}
use Rattle.pt_value.specs.Token.{token_of}
use Rattle.pt_value.specs.declared.token.Token.{Token}
use Rattle.pt_value.specs.declared.token.Token.TheVariants as token
use Rattle.pt_firing.specs.Params.{value_under, int_within}
use Rattle.pt_firing.specs.Row.{one_each}
use Rattle.pt_flow_base.specs.declared.params.Params.{Params}
use Rattle.pt_lib_timed.specs.declared.discrete_clock.DiscreteClock.{DiscreteClock}
use Rattle.pt_lib_timed.specs.Signal.{shows, beginning, last_time}

abbrev pub need : DiscreteClock → Need
need actor = one_each actor.places

-- the offset that a value says: a number that isn't negative
abbrev pub offset_of : Option Value → Option ℕ
offset_of (Some (Int (pos offset))) = Some offset
offset_of value = None

-- an event of a round is due at the round's beginning and its offset, none past the last tick
abbrev pub event_at : ℕ → Option ℕ → Option Tag
event_at round None = None
event_at round (Some offset) = within_limits (beginning (round + offset))

-- round k begins at k times the period
abbrev pub next : DiscreteClock → Option Tag
next actor = event_at (actor.round * actor.period) (offset_of (slice_get actor.offsets actor.index))

-- behind an event is the next one of the round, and behind the last the first of the next round
abbrev pub moved : DiscreteClock → DiscreteClock
moved actor = if nat_lt (actor.index + 1) (length actor.offsets) then record actor { index = actor.index + 1 } else record actor { round = actor.round + 1; index = 0 }

-- the first event that is due is given, and the clock goes on
abbrev pub step : Tag → DiscreteClock → Streams Token → Answer Token DiscreteClock
step tag actor X = if is_due tag (next actor) then shows (moved actor) (option_map token_of (slice_get actor.values actor.index)) else shows actor None

-- an array by its name, else the one with this integer alone
abbrev pub array_of : ℤ → Option Token → Option (List Value)
array_of default None = Some (Int default ∷ [])
array_of default (Some (token.Array values)) = Some values
array_of default (Some token) = None

-- from 1 to 2^62: where there is none, 0 stands for it, which is outside
abbrev pub period_given : List (List ℕ × Token) → Option ℤ
period_given values = int_within (codes "period") (pos 0) (pos 1) last_time values

-- there are as many values as offsets
abbrev pub start_of : Option ℤ → Option (List Value) → Option (List Value) → Option DiscreteClock
start_of (Some period) (Some offsets) (Some values) = if nat_eq (length offsets) (length values) then Some (record { period = unsigned_abs period; offsets = offsets; values = values; round = 0; index = 0; places = 0 }) else None
start_of (Some period) (Some offsets) None = None
start_of (Some period) None values = None
start_of None offsets values = None

abbrev pub start : Params → Option DiscreteClock
start params = start_of (period_given params.values) (array_of (pos 0) (value_under (codes "offsets") params.values)) (array_of (pos 1) (value_under (codes "values") params.values))
