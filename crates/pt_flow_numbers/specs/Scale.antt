-- Scale: its input times a factor.
use Rattle.std.specs.Prelude.{ℤ, ◌*ℤ◌, Option, Some, None, codes, pos}
use Rattle.pt_meaning.specs.Basics.{Tag, Streams}
use Rattle.pt_meaning.specs.Machine.{Need}
use Rattle.pt_meaning.specs.Node.{Answer}
use Rattle.pt_value.specs.declared.token.Token.{Token}
use Rattle.pt_flow_numbers.specs.declared.scale.Scale.{Scale}
use Rattle.pt_flow_base.specs.declared.params.Params.{Params}
use Rattle.pt_firing.specs.Params.{int_or}
use Rattle.pt_flow_base.specs.Row.{one_each, exactly, number_at, on_present}

abbrev pub need : Scale → Need
need actor = one_each actor.places

abbrev pub step : Tag → Scale → Streams Token → Answer Token Scale
step tag actor X = on_present actor (λ input. exactly actor (input *ℤ actor.factor)) (number_at X 0)

-- by its parameter factor, else 1
abbrev pub start_by : Option ℤ → Option Scale
start_by None = None
start_by (Some factor) = Some (record { factor = factor; places = 1 })

abbrev pub start : Params → Option Scale
start params = start_by (int_or (codes "factor") (pos 1) params.values)
