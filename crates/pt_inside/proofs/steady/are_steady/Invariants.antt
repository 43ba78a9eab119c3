use Rattle.std.proofs.Common.{take, map}
use Rattle.pt_node.specs.Shown.{shown}
use Rattle.pt_trees.specs.Composite.{trees_of}
use Rattle.pt_trees.specs.Rates.{AreSteady}
use Rattle.pt_inside.proofs.steady.are_steady.Given as goal

abbrev pub invariant-loop-child : goal.invariant-loop-child
invariant-loop-child l = AreSteady (trees_of (map shown (take l.child-index l.children)))
