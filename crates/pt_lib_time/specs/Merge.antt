-- Merge: the token of whichever channel has one.
use Rattle.std.specs.Prelude.{ℕ, List, [], ◌∷◌, Option, Some, None, codes}
use Rattle.std.specs.Option.{option_or}
use Rattle.pt_meaning.specs.Basics.{Tag, Streams}
use Rattle.pt_meaning.specs.Machine.{Need, Any}
use Rattle.pt_meaning.specs.Node.{Answer}
use Rattle.pt_value.specs.declared.token.Token.{Token}
use Rattle.pt_firing.specs.Params.{channels_to}
use Rattle.pt_firing.specs.Row.{first_in}
use Rattle.pt_flow_base.specs.declared.params.Params.{Params}
use Rattle.pt_lib_time.specs.declared.merge.Merge.{Merge}
use Rattle.pt_lib_time.specs.Signal.{shows}

-- a token on any one of its places
abbrev pub need : Merge → Need
need actor = Any

-- the first token that is there, in the order of the channels
unfoldable pub first_present : {T : Type 0} → Streams T → Option T
first_present [] = None
first_present (tokens ∷ X) = option_or (first_in tokens) (first_present X)

abbrev pub step : Tag → Merge → Streams Token → Answer Token Merge
step tag actor X = shows actor (first_present X)

abbrev pub start : Params → Option Merge
start params = Some (record { places = channels_to (codes "input") params.ports })
