-- Sampler: where its trigger is present, the latest present input.
use Rattle.std.specs.Prelude.{Option, Some, Bool, codes}
use Rattle.std.specs.Option.{option_or}
use Rattle.pt_meaning.specs.Basics.{Tag, Streams}
use Rattle.pt_meaning.specs.Machine.{Need}
use Rattle.pt_meaning.specs.Node.{Answer}
use Rattle.pt_value.specs.declared.token.Token.{Token}
use Rattle.pt_firing.specs.Params.{value_under}
use Rattle.pt_firing.specs.Row.{one_each, token_at, is_present}
use Rattle.pt_flow_base.specs.declared.params.Params.{Params}
use Rattle.pt_lib_timed.specs.declared.sampler.Sampler.{Sampler}
use Rattle.pt_lib_timed.specs.Signal.{shows, where_so}

abbrev pub need : Sampler → Need
need actor = one_each actor.places

-- a present input is kept
abbrev pub keeping : Sampler → Option Token → Sampler
keeping actor input = record actor { kept = option_or input actor.kept }

-- a present trigger gives what is kept
abbrev pub sampled : Bool → Sampler → Answer Token Sampler
sampled triggered after = shows after (where_so triggered after.kept)

abbrev pub step : Tag → Sampler → Streams Token → Answer Token Sampler
step tag actor X = sampled (is_present X 1) (keeping actor (token_at X 0))

-- before the first input there is initialValue, or nothing
abbrev pub start : Params → Option Sampler
start params = Some (record { kept = value_under (codes "initialValue") params.values; places = 2 })
