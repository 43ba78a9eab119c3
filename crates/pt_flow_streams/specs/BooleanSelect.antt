-- BooleanSelect: takes its control and gives nothing, and then takes the input that the control named and gives its token. The true input stands before the false one, and both before the control.
use Rattle.std.specs.Prelude.{[], ◌∷◌, true, false, Bool, Option, Some, None}
use Rattle.pt_meaning.specs.Basics.{Tag, Streams}
use Rattle.pt_meaning.specs.Machine.{Need, Counts}
use Rattle.pt_meaning.specs.Node.{Answer}
use Rattle.pt_value.specs.declared.token.Token.{Token}
use Rattle.pt_flow_streams.specs.declared.boolean_select.Turn.{Turn}
use Rattle.pt_flow_streams.specs.declared.boolean_select.Turn.TheVariants.{Control, Input}
use Rattle.pt_flow_base.specs.declared.params.Params.{Params}
use Rattle.pt_flow_base.specs.Row.{gives, rests, token_at, truth_at, on_present}

abbrev pub need : Turn → Need
need Control = Counts (0 ∷ 0 ∷ 1 ∷ [])
need (Input true) = Counts (1 ∷ 0 ∷ 0 ∷ [])
need (Input false) = Counts (0 ∷ 1 ∷ 0 ∷ [])

-- after the control
abbrev pub named : Option Bool → Answer Token Turn
named None = rests Control
named (Some control) = rests (Input control)

abbrev pub step : Tag → Turn → Streams Token → Answer Token Turn
step tag Control X = named (truth_at X 2)
step tag (Input true) X = on_present (Input true) (gives Control) (token_at X 0)
step tag (Input false) X = on_present (Input false) (gives Control) (token_at X 1)

abbrev pub start : Params → Option Turn
start params = Some Control
