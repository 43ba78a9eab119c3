-- DownSample: of so many tokens gives one, and drops the others.
use Rattle.std.specs.Prelude.{ℕ, ◌-◌, [], ◌∷◌, slice_get, Option, Some, None}
use Rattle.pt_meaning.specs.Basics.{Tag, Streams, at}
use Rattle.pt_meaning.specs.Machine.{Need, Counts}
use Rattle.pt_meaning.specs.Node.{Answer}
use Rattle.pt_value.specs.declared.token.Token.{Token}
use Rattle.pt_flow_streams.specs.declared.down_sample.DownSample.{DownSample}
use Rattle.pt_flow_base.specs.declared.params.Params.{Params}
use Rattle.pt_flow_base.specs.Row.{gives, on_present}
use Rattle.pt_flow_base.specs.Rates.{factor_and_phase}

abbrev pub need : DownSample → Need
need actor = Counts actor.needed

abbrev pub step : Tag → DownSample → Streams Token → Answer Token DownSample
step tag actor X = on_present actor (gives actor) (slice_get (at X 0) actor.index)

-- Phase 0 gives the last token, and each phase more the one before it.
abbrev pub start_by : Option (ℕ × ℕ) → Option DownSample
start_by None = None
start_by (Some (factor, phase)) = Some (record { needed = factor ∷ []; index = factor - 1 - phase })

abbrev pub start : Params → Option DownSample
start params = start_by (factor_and_phase params.values)
