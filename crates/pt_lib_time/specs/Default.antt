-- Default: its preferred input where that is present, else the alternate one.
use Rattle.std.specs.Prelude.{List, [], ◌∷◌, Option, Some, None}
use Rattle.std.specs.Option.{option_or}
use Rattle.pt_meaning.specs.Basics.{Tag, Streams}
use Rattle.pt_meaning.specs.Machine.{Need, Partial, Unknown, Known}
use Rattle.pt_meaning.specs.Node.{Answer}
use Rattle.pt_value.specs.declared.token.Token.{Token}
use Rattle.pt_firing.specs.Row.{one_each, token_at}
use Rattle.pt_firing.specs.Strict.{strict}
use Rattle.pt_flow_base.specs.declared.params.Params.{Params}
use Rattle.pt_lib_time.specs.declared.fallback.Default.{Default}
use Rattle.pt_lib_time.specs.Signal.{shows, known_token, decided_or}

abbrev pub need : Default → Need
need actor = one_each actor.places

abbrev pub step : Tag → Default → Streams Token → Answer Token Default
step tag actor X = shows actor (option_or (token_at X 0) (token_at X 1))

-- a present preferred input decides
abbrev pub if_present : {T : Type 0} → Option T → Partial T
if_present (Some token) = Known (token ∷ [])
if_present None = Unknown

abbrev pub decided : List (Partial Token) → Partial Token
decided vs = if_present (known_token vs 0)

-- else both inputs have to be known
abbrev pub early : Tag → Default → List (Partial Token) → List (Partial Token)
early tag actor vs = decided_or (decided vs) (strict 1 step tag actor vs)

abbrev pub start : Params → Option Default
start params = Some (record { places = 2 })
