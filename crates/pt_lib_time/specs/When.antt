-- When: its input, where its control is present and true.
use Rattle.std.specs.Prelude.{Bool, true, false, Option, Some, None}
use Rattle.pt_meaning.specs.Basics.{Tag, Streams}
use Rattle.pt_meaning.specs.Machine.{Need}
use Rattle.pt_meaning.specs.Node.{Answer}
use Rattle.pt_value.specs.declared.token.Token.{Token}
use Rattle.pt_firing.specs.Row.{one_each, token_at, truth_at}
use Rattle.pt_flow_base.specs.declared.params.Params.{Params}
use Rattle.pt_lib_time.specs.declared.when.When.{When}
use Rattle.pt_lib_time.specs.Signal.{shows}

abbrev pub need : When → Need
need actor = one_each actor.places

abbrev pub where_true : {T : Type 0} → Option Bool → Option T → Option T
where_true (Some true) signal = signal
where_true (Some false) signal = None
where_true None signal = None

abbrev pub step : Tag → When → Streams Token → Answer Token When
step tag actor X = shows actor (where_true (truth_at X 1) (token_at X 0))

abbrev pub start : Params → Option When
start params = Some (record { places = 2 })
