use Rattle.std.proofs.Common.{rules}
use Rattle.pt_library.proofs.library_actor.LibraryActorActor.early.Goals as goal

pub early-requires : goal.early-requires
early-requires c = λ X e. let taken = c.requires X e in search rules
