-- Const: a source of one value.
use Rattle.std.specs.Prelude.{ℕ, Option, Some, None, codes}
use Rattle.pt_meaning.specs.Basics.{Tag, Streams}
use Rattle.pt_meaning.specs.Machine.{Need}
use Rattle.pt_meaning.specs.Node.{Answer}
use Rattle.pt_value.specs.declared.token.Token.{Token}
use Rattle.pt_value.specs.Token.{IsScalar}
use Rattle.pt_flow_streams.specs.declared.constant.Const.{Const}
use Rattle.pt_flow_base.specs.declared.params.Params.{Params}
use Rattle.pt_firing.specs.Params.{value_under, channels_to}
use Rattle.pt_flow_base.specs.declared.limit.Limit.{Limit}
use Rattle.pt_flow_base.specs.Row.{gives}
use Rattle.pt_flow_base.specs.Limit.{limit_in, is_over, after_one, source, source_need}

abbrev pub need : Const → Need
need actor = source_need (is_over actor.limit) actor.places

abbrev pub step : Tag → Const → Streams Token → Answer Token Const
step tag actor X = source (is_over actor.limit) X actor (gives (record actor { limit = after_one actor.limit }) actor.value)

-- integers and truth values take no memory
abbrev pub IsSpare : Const → Type 0
IsSpare actor = IsScalar actor.value

-- by its parameter value
abbrev pub start_by : Option Token → Option Limit → ℕ → Option Const
start_by (Some value) (Some limit) triggers = Some (record { value = value; limit = limit; places = triggers })
start_by (Some value) None triggers = None
start_by None limit triggers = None

abbrev pub start : Params → Option Const
start params = start_by (value_under (codes "value") params.values) (limit_in params.values) (channels_to (codes "trigger") params.ports)
