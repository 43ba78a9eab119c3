-- The laws of this crate.
use Rattle.std.specs.Prelude.{◌≡◌, ℕ, Some}
use Rattle.std.specs.List.{AllByRecursion}
use Rattle.pt_meaning.specs.Streams.{get}
use Rattle.pt_datatypes.specs.Datatype.{Datatype}
use Rattle.pt_datatypes.specs.Order.{IsBelow}
use Rattle.pt_library.specs.declared.library_actor.LibraryActor.{LibraryActor}
use Rattle.pt_library.specs.LibraryActor.{rows, first}
use Rattle.pt_typed.specs.TokenTypes.{IsTokenOf}
use Rattle.pt_typed.specs.TypedActor.{Types, MeetsRow, IsTypedActor}
use Rattle.pt_kinds.specs.TypedRuns.{StepsKeepKinds, MeaningKeepsKinds}

-- an actor that meets its row is typed
abbrev pub RowsKeepTypes : Type 0
RowsKeepTypes = (s : Types) (a : LibraryActor) → MeetsRow s a → IsTypedActor s a

-- its first tokens are of the type of each of its outputs
abbrev pub FirstTokensAreTyped : Type 0
FirstTokensAreTyped = (s : Types) (a : LibraryActor) (port : ℕ) (u : Datatype) → MeetsRow s a → get s.outputs port ≡ Some u → AllByRecursion (IsTokenOf u) (first a)

-- in a typed tree, whose directors only move tokens, each firing keeps to the types
abbrev pub TypedStepsKeepTypes : Type 0
TypedStepsKeepTypes = StepsKeepKinds IsTokenOf IsBelow IsTypedActor rows

-- and so does the log of a job, at each fuel
abbrev pub TypedRunsKeepTypes : Type 0
TypedRunsKeepTypes = MeaningKeepsKinds IsTokenOf IsBelow IsTypedActor rows
