-- Sequence: a source of some values in order, which then begins again or is over.
use Rattle.std.specs.Prelude.{ℕ, ◌+◌, nat_le, length, ◌&&◌, Bool, Option, Some, None, slice_get, if◌then◌else◌, codes, false, ◌∷◌}
use Rattle.pt_meaning.specs.Basics.{Tag, Streams}
use Rattle.pt_meaning.specs.Machine.{Need, Over}
use Rattle.pt_meaning.specs.Node.{Answer}
use Rattle.pt_value.specs.Value.{Value}
use Rattle.pt_value.specs.Token.{token_of}
use Rattle.pt_value.specs.declared.token.Token.{Token}
use Rattle.pt_flow_streams.specs.declared.sequence.Sequence.{Sequence}
use Rattle.pt_flow_base.specs.declared.params.Params.{Params}
use Rattle.pt_firing.specs.Params.{value_under, bool_or, channels_to}
use Rattle.pt_value.specs.declared.token.Token.TheVariants.{Array}
use Rattle.pt_flow_base.specs.Row.{one_each, rests, gives}
use Rattle.pt_flow_base.specs.Limit.{is_called}

-- the value that is next, none behind the last
abbrev pub due : Sequence → Option Value
due actor = slice_get actor.values actor.index

abbrev pub need_by : ℕ → Option Value → Need
need_by places None = Over
need_by places (Some value) = one_each places

abbrev pub need : Sequence → Need
need actor = need_by actor.places (due actor)

-- behind the value at an index is the next one, or the first again
unfoldable pub index_after : Bool → (count index : ℕ) → ℕ
index_after cyclic count index = if cyclic && nat_le count (index + 1) then 0 else index + 1

abbrev pub moved : Sequence → Sequence
moved actor = record actor { index = index_after actor.cyclic (length actor.values) actor.index }

abbrev pub given : Sequence → Streams Token → Option Value → Answer Token Sequence
given actor X None = rests actor
given actor X (Some value) = if is_called X then gives (moved actor) (token_of value) else rests actor

abbrev pub step : Tag → Sequence → Streams Token → Answer Token Sequence
step tag actor X = given actor X (due actor)

-- by its parameters values, which aren't empty, and repeat, else false
abbrev pub start_by : Option Token → Option Bool → ℕ → Option Sequence
start_by (Some (Array (value ∷ values))) (Some cyclic) triggers = Some (record { values = value ∷ values; cyclic = cyclic; index = 0; places = triggers })
start_by values cyclic triggers = None

abbrev pub start : Params → Option Sequence
start params = start_by (value_under (codes "values") params.values) (bool_or (codes "repeat") false params.values) (channels_to (codes "trigger") params.ports)
