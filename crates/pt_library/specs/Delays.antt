-- The laws of delays: places of which nothing that comes there has a part in what is given at its tag.
use Rattle.std.specs.Prelude.{◌≡◌, ◌<◌, ℕ, List, true, false, Some}
use Rattle.pt_meaning.specs.Basics.{Tag, Streams}
use Rattle.pt_meaning.specs.Machine.{Partial, partial_at}
use Rattle.pt_meaning.specs.Valuation.{is_known}
use Rattle.pt_value.specs.declared.token.Token.{Token}
use Rattle.pt_library.specs.declared.library_actor.LibraryActor.{LibraryActor}
use Rattle.pt_library.specs.LibraryActor.{outputs, whole, is_delay, early}
use Rattle.pt_library.specs.Steady.{after}

-- An actor that takes its lists whole lets all its outputs be known as soon as each place is known that isn't a delay.
abbrev pub DelaysTellEarly : Type 0
DelaysTellEarly = (tag : Tag) (a : LibraryActor) (vs : List (Partial Token)) → whole a ≡ true → ((place : ℕ) → is_delay a place ≡ false → is_known (partial_at vs place) ≡ true) → (port : ℕ) → port < outputs a → is_known (partial_at (early tag a vs) port) ≡ true

-- only such actors have delays
abbrev pub DelaysAreWhole : Type 0
DelaysAreWhole = (a : LibraryActor) (place : ℕ) → is_delay a place ≡ true → whole a ≡ true

-- what is the same of two states: whether they take their lists whole, and which places are delays
pub record HaveSameDelays (a b : LibraryActor) : Type 0 where
  pub wholes : whole b ≡ whole a
  pub delays : (place : ℕ) → is_delay b place ≡ is_delay a place

-- whatever an actor fires, it takes its lists whole where it did, and has the same delays
abbrev pub DelaysStay : Type 0
DelaysStay = (fs : List (Tag × Streams Token)) (a b : LibraryActor) → after fs a ≡ Some b → HaveSameDelays a b
