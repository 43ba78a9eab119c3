-- The laws of the library, beside those that every library keeps: what is known early, what stays over a firing, and what an actor needs.
use Rattle.std.specs.Prelude.{◌≡◌, ◌<◌, ℕ, List, true, false, None, replicate}
use Rattle.pt_meaning.specs.Basics.{Tag, Streams}
use Rattle.pt_meaning.specs.Machine.{Partial, Unknown, partial_at}
use Rattle.pt_meaning.specs.Valuation.{known, is_known}
use Rattle.pt_meaning.specs.Node.{Gives}
use Rattle.pt_value.specs.declared.token.Token.{Token}
use Rattle.pt_firing.specs.Row.{one_each}
use Rattle.pt_lib_timed.specs.declared.timed_actor.TimedActor.{TimedActor}
use Rattle.pt_lib_timed.specs.TimedActor.{places, outputs, need, whole, is_strict, is_delay, step, early}

-- An actor that takes its lists whole lets all its outputs be known as soon as each place is known that isn't a delay.
abbrev pub DelaysTellEarly : Type 0
DelaysTellEarly = (tag : Tag) (a : TimedActor) (vs : List (Partial Token)) → whole a ≡ true → ((place : ℕ) → is_delay a place ≡ false → is_known (partial_at vs place) ≡ true) → (port : ℕ) → port < outputs a → is_known (partial_at (early tag a vs) port) ≡ true

-- only such actors have delays
abbrev pub DelaysAreWhole : Type 0
DelaysAreWhole = (a : TimedActor) (place : ℕ) → is_delay a place ≡ true → whole a ≡ true

-- what stays over a firing: whether it takes its lists whole, which places are delays, and what it needs
pub record Stays (a b : TimedActor) : Type 0 where
  pub wholes : whole b ≡ whole a
  pub delays : (place : ℕ) → is_delay b place ≡ is_delay a place
  pub strict : is_strict b ≡ is_strict a
  pub needs : need b ≡ need a

abbrev pub ActorsStay : Type 0
ActorsStay = (tag : Tag) (a b : TimedActor) (X out : Streams Token) → step tag a X ≡ Gives b out → Stays a b

-- a strict actor lets nothing be known while an input is unknown
abbrev pub StrictActorsWait : Type 0
StrictActorsWait = (tag : Tag) (a : TimedActor) (vs : List (Partial Token)) → is_strict a ≡ true → known vs ≡ None → early tag a vs ≡ replicate (outputs a) Unknown

-- an actor needs one token on each of its places
abbrev pub NeedsAreOne : Type 0
NeedsAreOne = (a : TimedActor) → need a ≡ one_each (places a)
