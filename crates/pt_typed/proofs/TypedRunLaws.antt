-- Runs of trees of library actors, by the laws of runs of typed trees.
use Rattle.pt_value.specs.declared.token.Token.{Token}
use Rattle.pt_datatypes.specs.Datatype.{Datatype}
use Rattle.pt_datatypes.specs.Order.{IsBelow}
use Rattle.pt_library.specs.declared.library_actor.LibraryActor.{LibraryActor}
use Rattle.pt_library.specs.LibraryActor.{rows}
use Rattle.pt_typed.specs.TokenTypes.{IsTokenOf}
use Rattle.pt_typed.specs.TypedActor.{IsTypedActor}
use Rattle.pt_kinds.specs.TypedRuns.{ActorsKeepKinds, KindsWiden, StepsKeepKinds, MeaningKeepsKinds}
use Rattle.pt_typed.proofs.TypeLaws.{token-wider}
use Rattle.pt_typed.proofs.ActorLaws.{typed-stays, typed-tells}
use Rattle.pt_kinds.proofs.NodeLaws.{steps-typed, meaning-typed}

types-widen : KindsWiden {T = Token} {K = Datatype} {A = LibraryActor} IsTokenOf IsBelow IsTypedActor rows
types-widen s t x h k = token-wider s t x h k

actors-keep : ActorsKeepKinds {T = Token} {K = Datatype} {A = LibraryActor} IsTokenOf IsBelow IsTypedActor rows
actors-keep = record { gives = λ s a b tag X out h i e. typed-stays s a b tag X out h i e; tells = λ s a tag vs h k. typed-tells s a tag vs h k }

pub steps-keep : StepsKeepKinds IsTokenOf IsBelow IsTypedActor rows
steps-keep = steps-typed IsTokenOf IsBelow IsTypedActor rows types-widen actors-keep

pub runs-keep : MeaningKeepsKinds IsTokenOf IsBelow IsTypedActor rows
runs-keep = meaning-typed IsTokenOf IsBelow IsTypedActor rows types-widen actors-keep
