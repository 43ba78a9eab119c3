-- The laws of the libraries: which classes they have, which actors are steady or strict, how many places an actor has, and how many tokens it gives.
use Rattle.std.specs.Prelude.{◌≡◌, ℕ, List, length, map, true, Some, None, IsSome, IfSome}
use Rattle.std.specs.List.{AllByRecursion}
use Rattle.pt_meaning.specs.Basics.{Tag, Streams}
use Rattle.pt_meaning.specs.Machine.{Counts}
use Rattle.pt_meaning.specs.Node.{Gives}
use Rattle.pt_value.specs.declared.token.Token.{Token}
use Rattle.pt_lib_data.specs.Function as function
use Rattle.pt_lib_data.specs.Laws.{AreGiven}
use Rattle.pt_flow_base.specs.declared.params.Params.{Params}
use Rattle.pt_lib_flow.specs.FlowActor as flow_actor
use Rattle.pt_lib_time.specs.TimeActor as time_actor
use Rattle.pt_lib_timed.specs.TimedActor as timed_actor
use Rattle.pt_flow_base.specs.Rates.{IsCount, IsCounted}
use Rattle.pt_library.specs.declared.library_actor.LibraryActor.{LibraryActor}
use Rattle.pt_library.specs.LibraryActor.{is_steady, is_strict, need, rates, step, start}
use Rattle.pt_library.specs.Steady.{IsSteadyActor, HasPlaces, KeepsAny, IsStrictActor}

-- a class of one library is none of another
pub record IsOfOneLibrary (name : List ℕ) : Type 0 where
  pub flow_or_data : IsSome (flow_actor.class_of name) → function.class_of name ≡ None
  pub flow_or_time : IsSome (flow_actor.class_of name) → time_actor.class_of name ≡ None
  pub flow_or_timed : IsSome (flow_actor.class_of name) → timed_actor.class_of name ≡ None
  pub data_or_time : IsSome (function.class_of name) → time_actor.class_of name ≡ None
  pub data_or_timed : IsSome (function.class_of name) → timed_actor.class_of name ≡ None
  pub time_or_timed : IsSome (time_actor.class_of name) → timed_actor.class_of name ≡ None

abbrev pub ClassesAreOfOneLibrary : Type 0
ClassesAreOfOneLibrary = (name : List ℕ) → IsOfOneLibrary name

-- an actor that its library tells to be steady is so, whatever it fires
abbrev pub ToldActorsAreSteady : Type 0
ToldActorsAreSteady = (a : LibraryActor) → is_steady a ≡ true → IsSteadyActor a

-- an actor that its library tells to be strict is so, whatever it fires
abbrev pub ToldActorsAreStrict : Type 0
ToldActorsAreStrict = (a : LibraryActor) → is_strict a ≡ true → IsStrictActor a

-- where an actor needs a number of tokens at each of its places, it has as many places whatever it fires
abbrev pub PlacesStay : Type 0
PlacesStay = (a : LibraryActor) (ns : List ℕ) → need a ≡ Counts ns → HasPlaces (length ns) a

-- an actor that needs a token at any one place does so whatever it fires, and no other one ever does
abbrev pub AnyNeedsStay : Type 0
AnyNeedsStay = (a : LibraryActor) → KeepsAny a

-- a steady actor, once it is started, needs from 1 to 1,000,000 tokens at each of its places
abbrev pub SteadyNeedsAreCounts : Type 0
SteadyNeedsAreCounts = (params : Params) (a : LibraryActor) → start params ≡ Some a → is_steady a ≡ true → IsCounted (need a)

-- its rates, where they don't vary, are from 1 to 1,000,000
abbrev pub IsRatedActor : LibraryActor → Type 0
IsRatedActor a = IfSome (rates a) (AllByRecursion IsCount)

-- so are those of each actor that is started
abbrev pub RatesAreCounts : Type 0
RatesAreCounts = (params : Params) (a : LibraryActor) → start params ≡ Some a → IsRatedActor a

-- A firing on as many tokens as the actor needs gives on each output as many as its rate, or none: where an input is absent or of another type, or a source is over.
abbrev pub RatesAreGiven : Type 0
RatesAreGiven = (tag : Tag) (a b : LibraryActor) (X out : Streams Token) (given : List ℕ) → rates a ≡ Some given → need a ≡ Counts (map length X) → step tag a X ≡ Gives b out → AreGiven given out
