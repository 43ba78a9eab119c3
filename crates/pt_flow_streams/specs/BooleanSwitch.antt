-- BooleanSwitch: gives its input on the output that its control names, the first where it is true.
use Rattle.std.specs.Prelude.{[], ◌∷◌, true, false, Bool, Option, Some, None}
use Rattle.pt_meaning.specs.Basics.{Tag, Streams}
use Rattle.pt_meaning.specs.Machine.{Need}
use Rattle.pt_meaning.specs.Node.{Answer, Gives}
use Rattle.pt_value.specs.declared.token.Token.{Token}
use Rattle.pt_flow_streams.specs.declared.boolean_switch.BooleanSwitch.{BooleanSwitch}
use Rattle.pt_flow_base.specs.declared.params.Params.{Params}
use Rattle.pt_flow_base.specs.Row.{one_each, token_at, truth_at}

abbrev pub need : BooleanSwitch → Need
need actor = one_each actor.places

-- a token on the output that a truth value names
abbrev pub on_named : Bool → Token → Streams Token
on_named true token = (token ∷ []) ∷ [] ∷ []
on_named false token = [] ∷ (token ∷ []) ∷ []

abbrev pub switched : BooleanSwitch → Option Token → Option Bool → Answer Token BooleanSwitch
switched actor (Some token) (Some control) = Gives actor (on_named control token)
switched actor (Some token) None = Gives actor ([] ∷ [] ∷ [])
switched actor None control = Gives actor ([] ∷ [] ∷ [])

abbrev pub step : Tag → BooleanSwitch → Streams Token → Answer Token BooleanSwitch
step tag actor X = switched actor (token_at X 0) (truth_at X 1)

abbrev pub start : Params → Option BooleanSwitch
start params = Some (record { places = 2 })
