-- Library actors that keep to the types of their places and outputs.
use Rattle.std.specs.Prelude.{◌≡◌, List, [], ◌∷◌, Some}
use Rattle.pt_meaning.specs.Basics.{Tag, Streams}
use Rattle.pt_meaning.specs.Machine.{Partial}
use Rattle.pt_meaning.specs.Node.{Gives}
use Rattle.pt_value.specs.declared.token.Token.{Token}
use Rattle.pt_datatypes.specs.Datatype.{Datatype}
use Rattle.pt_library.specs.declared.library_actor.LibraryActor.{LibraryActor}
use Rattle.pt_library.specs.declared.library_actor.LibraryActor.TheVariants.{Flow, Data, Time, Timed}
use Rattle.pt_library.specs.LibraryActor.{step, early}
use Rattle.pt_library.specs.Steady.{after}
use Rattle.pt_kinds.specs.Signature.{Signature, AreOf, AreAllOf, AreKnownOf, AreAllKnownOf}
use Rattle.pt_typed.specs.TokenTypes.{IsTokenOf}
use Rattle.pt_typed.specs.TypedFlow.{IsTypedFlow}
use Rattle.pt_typed.specs.TypedData.{IsTypedFunction}
use Rattle.pt_typed.specs.TypedTime.{IsTypedTime}
use Rattle.pt_typed.specs.TypedTimed.{IsTypedTimed}

-- the types at the places of a node and on its outputs
abbrev pub Types : Type 0
Types = Signature Datatype

-- what the row of an actor asks of these types, and of the tokens that the actor holds
abbrev pub MeetsRow : Types → LibraryActor → Type 0
MeetsRow s (Flow actor) = IsTypedFlow s.places s.outputs actor
MeetsRow s (Data actor) = IsTypedFunction s.places s.outputs actor.function
MeetsRow s (Time actor) = IsTypedTime s.places s.outputs actor
MeetsRow s (Timed actor) = IsTypedTimed s.places s.outputs actor

-- each of these firings is on tokens of the types of the places
abbrev pub AreTypedFirings : Types → List (Tag × Streams Token) → Type 0
AreTypedFirings s [] = Unit {0}
AreTypedFirings s (f ∷ fs) = AreAllOf IsTokenOf s.places f.1 × AreTypedFirings s fs

-- A typed actor: whatever it has fired on tokens of the types of its places, on such tokens it gives tokens of the types of its outputs, and so it does early, from what is known of such tokens.
pub record IsTypedActor (s : Types) (a : LibraryActor) : Type 0 where
  pub gives : (fs : List (Tag × Streams Token)) → AreTypedFirings s fs → (b c : LibraryActor) → after fs a ≡ Some b → (tag : Tag) (X out : Streams Token) → AreAllOf IsTokenOf s.places X → step tag b X ≡ Gives c out → AreOf IsTokenOf s.outputs out
  pub tells : (fs : List (Tag × Streams Token)) → AreTypedFirings s fs → (b : LibraryActor) → after fs a ≡ Some b → (tag : Tag) (vs : List (Partial Token)) → AreAllKnownOf IsTokenOf s.places vs → AreKnownOf IsTokenOf s.outputs (early tag b vs)
