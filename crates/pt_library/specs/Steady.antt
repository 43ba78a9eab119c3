-- What holds of an actor whatever it fires: that it needs the same, that it has so many places, whether it needs a token at any one of them, and that it is strict.
use Rattle.std.specs.Prelude.{◌≡◌, ◌↔◌, ℕ, List, [], ◌∷◌, length, Option, Some, None}
use Rattle.pt_meaning.specs.Basics.{Tag, Streams}
use Rattle.pt_meaning.specs.Machine.{Counts, Any, Partial, Unknown, partial_at}
use Rattle.pt_meaning.specs.Valuation.{known}
use Rattle.pt_meaning.specs.Closed.{on_answer}
use Rattle.pt_value.specs.declared.token.Token.{Token}
use Rattle.pt_library.specs.declared.library_actor.LibraryActor.{LibraryActor}
use Rattle.pt_library.specs.LibraryActor as library

-- the actor after some firings, where each of them is done
abbrev pub after : List (Tag × Streams Token) → LibraryActor → Option LibraryActor
after [] a = Some a
after (f ∷ fs) a = on_answer (after fs) (library.step f.0 a f.1)

-- Whatever it fires, its need stays the same, and its step takes any inputs. A source with a limit isn't steady: once it is over it needs nothing more.
pub record IsSteadyActor (a : LibraryActor) : Type 0 where
  pub needs : (fs : List (Tag × Streams Token)) (b : LibraryActor) → after fs a ≡ Some b → library.need b ≡ library.need a
  pub takes : (fs : List (Tag × Streams Token)) (b : LibraryActor) → after fs a ≡ Some b → (tag : Tag) (X : Streams Token) → library.Takes tag b X

-- Whatever it fires, it has so many places, where it needs a number of tokens at each.
abbrev pub HasPlaces : ℕ → LibraryActor → Type 0
HasPlaces n a = (fs : List (Tag × Streams Token)) (b : LibraryActor) → after fs a ≡ Some b → (ns : List ℕ) → library.need b ≡ Counts ns → length ns ≡ n

-- Whatever it fires, it needs a token at any one of its places exactly where it did so at first.
abbrev pub KeepsAny : LibraryActor → Type 0
KeepsAny a = (fs : List (Tag × Streams Token)) (b : LibraryActor) → after fs a ≡ Some b → (library.need b ≡ Any) ↔ (library.need a ≡ Any)

-- Whatever it fires, nothing is known of its outputs while an input is unknown.
abbrev pub IsStrictActor : LibraryActor → Type 0
IsStrictActor a = (fs : List (Tag × Streams Token)) (b : LibraryActor) → after fs a ≡ Some b → (tag : Tag) (vs : List (Partial Token)) → known vs ≡ None → (port : ℕ) → partial_at (library.early tag b vs) port ≡ Unknown
