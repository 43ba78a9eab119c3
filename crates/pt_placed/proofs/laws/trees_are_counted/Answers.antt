use Rattle.pt_placed.proofs.Trees.{trees-counted}
use Rattle.pt_placed.proofs.laws.trees_are_counted.Goals as goal

pub returns : goal.returns
returns c = trees-counted
