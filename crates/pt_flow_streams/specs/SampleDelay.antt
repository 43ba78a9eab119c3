-- SampleDelay: passes its input, behind first tokens that stand on the channels of its output at the start.
use Rattle.std.specs.Prelude.{pos, List, [], ◌∷◌, map, Option, Some, None, codes}
use Rattle.pt_meaning.specs.Basics.{Tag, Streams}
use Rattle.pt_meaning.specs.Machine.{Need}
use Rattle.pt_meaning.specs.Node.{Answer}
use Rattle.pt_value.specs.Token.{token_of}
use Rattle.pt_value.specs.declared.token.Token.{Token}
use Rattle.pt_value.specs.declared.token.Token.TheVariants.{Int, Array}
use Rattle.pt_firing.specs.Params.{value_under}
use Rattle.pt_flow_streams.specs.declared.sample_delay.SampleDelay.{SampleDelay}
use Rattle.pt_flow_base.specs.declared.params.Params.{Params}
use Rattle.pt_flow_base.specs.Row.{one_each, gives, token_at, on_present}

abbrev pub first : SampleDelay → List Token
first actor = actor.initial

abbrev pub need : SampleDelay → Need
need actor = one_each actor.places

abbrev pub step : Tag → SampleDelay → Streams Token → Answer Token SampleDelay
step tag actor X = on_present actor (gives actor) (token_at X 0)

-- the first tokens that initialOutputs says, else one 0
abbrev pub initial_of : Option Token → Option (List Token)
initial_of None = Some (Int (pos 0) ∷ [])
initial_of (Some (Array vs)) = Some (map token_of vs)
initial_of (Some token) = None

abbrev pub start_by : Option (List Token) → Option SampleDelay
start_by None = None
start_by (Some initial) = Some (record { initial = initial; places = 1 })

abbrev pub start : Params → Option SampleDelay
start params = start_by (initial_of (value_under (codes "initialOutputs") params.values))
