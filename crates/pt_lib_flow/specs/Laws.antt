-- The laws of the library: what stays the same from firing to firing, and how many tokens an actor needs and gives.
use Rattle.std.specs.Prelude.{◌≡◌, ℕ, ◌⊎◌, length, map, true, Option, Some, IfSome}
use Rattle.pt_meaning.specs.Basics.{Tag, Streams, at}
use Rattle.pt_meaning.specs.Machine.{Counts}
use Rattle.pt_meaning.specs.Node.{Gives}
use Rattle.pt_value.specs.declared.token.Token.{Token}
use Rattle.pt_lib_flow.specs.declared.flow_actor.FlowActor.{FlowActor}
use Rattle.pt_flow_base.specs.declared.params.Params.{Params}
use Rattle.pt_flow_base.specs.Rates.{IsCount, IsCounted}
use Rattle.pt_lib_flow.specs.FlowActor.{need, rate, is_steady, step, start}

-- after a firing a steady actor needs what it needed, and is steady
abbrev pub SteadyActorsStay : Type 0
SteadyActorsStay = (tag : Tag) (a b : FlowActor) (X out : Streams Token) → is_steady a ≡ true → step tag a X ≡ Gives b out → (need b ≡ need a) × (is_steady b ≡ true)

-- a steady actor, once it is started, needs from 1 to 1,000,000 tokens at each of its places
abbrev pub SteadyNeedsAreCounts : Type 0
SteadyNeedsAreCounts = (params : Params) (a : FlowActor) → start params ≡ Some a → is_steady a ≡ true → IsCounted (need a)

-- the rate of an actor that is started is from 1 to 1,000,000
abbrev pub RatesAreCounts : Type 0
RatesAreCounts = (params : Params) (a : FlowActor) → start params ≡ Some a → IfSome (rate a) IsCount

-- nothing is given on the one output, or so many tokens
abbrev pub IsGiven : ℕ → Streams Token → Type 0
IsGiven n out = (length (at out 0) ≡ 0) ⊎ (length (at out 0) ≡ n)

-- a firing on as many tokens as the actor needs gives as many as its rate, or none: where an input is absent or of another type, or a source is over
abbrev pub RatesAreGiven : Type 0
RatesAreGiven = (tag : Tag) (a b : FlowActor) (X out : Streams Token) (n : ℕ) → rate a ≡ Some n → need a ≡ Counts (map length X) → step tag a X ≡ Gives b out → IsGiven n out
