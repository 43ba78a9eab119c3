use Rattle.pt_typed.proofs.TreeLaws.{trees-are-typed}
use Rattle.pt_typed.proofs.laws.trees_are_typed.Goals as goal

pub returns : goal.returns
returns c = trees-are-typed
