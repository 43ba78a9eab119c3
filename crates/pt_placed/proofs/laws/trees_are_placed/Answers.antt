use Rattle.pt_placed.proofs.Trees.{trees-placed}
use Rattle.pt_placed.proofs.laws.trees_are_placed.Goals as goal

pub returns : goal.returns
returns c = trees-placed
