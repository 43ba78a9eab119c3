-- The laws of the library, beside those that every library keeps: what is known early, what a firing gives, and what an actor needs.
use Rattle.std.specs.Prelude.{◌≡◌, List, [], ◌∷◌, true, false, Option, Some, None, replicate}
use Rattle.pt_meaning.specs.Basics.{Tag, Streams}
use Rattle.pt_meaning.specs.Machine.{Partial, Unknown, Any}
use Rattle.pt_meaning.specs.Valuation.{known}
use Rattle.pt_meaning.specs.Node.{Gives}
use Rattle.pt_value.specs.declared.token.Token.{Token}
use Rattle.pt_firing.specs.Row.{one_each}
use Rattle.pt_firing.specs.Strict.{told_by}
use Rattle.pt_lib_time.specs.declared.time_actor.TimeActor.{TimeActor}
use Rattle.pt_lib_time.specs.Signal.{tokens_of}
use Rattle.pt_lib_time.specs.TimeActor.{places, outputs, need, is_steady, is_strict, step, early}

-- a strict actor lets nothing be known while an input is unknown
abbrev pub StrictActorsWait : Type 0
StrictActorsWait = (tag : Tag) (a : TimeActor) (vs : List (Partial Token)) → is_strict a ≡ true → known vs ≡ None → early tag a vs ≡ replicate (outputs a) Unknown

-- once all inputs are known each actor lets be known what its step gives, and nothing where that is stuck
abbrev pub KnownInputsTellTheStep : Type 0
KnownInputsTellTheStep = (tag : Tag) (a : TimeActor) (vs : List (Partial Token)) (X : Streams Token) → known vs ≡ Some X → early tag a vs ≡ told_by (outputs a) (step tag a X)

-- a firing gives a signal on the one output: one token at most
abbrev pub SignalsAreGiven : Type 0
SignalsAreGiven = (tag : Tag) (a b : TimeActor) (X out : Streams Token) → step tag a X ≡ Gives b out → (signal : Option Token) × (out ≡ tokens_of signal ∷ [])

-- a steady actor needs one token on each of its places, and any other one on any
abbrev pub NeedsAreOne : Type 0
NeedsAreOne = (a : TimeActor) → (is_steady a ≡ true → need a ≡ one_each (places a)) × (is_steady a ≡ false → need a ≡ Any)

-- after a firing a steady actor needs what it needed, and is steady
abbrev pub SteadyActorsStay : Type 0
SteadyActorsStay = (tag : Tag) (a b : TimeActor) (X out : Streams Token) → is_steady a ≡ true → step tag a X ≡ Gives b out → (need b ≡ need a) × (is_steady b ≡ true)
