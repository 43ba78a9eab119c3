use Rattle.std.proofs.Common.{take, map}
use Rattle.pt_node.specs.Shown.{shown}
use Rattle.pt_trees.specs.Composite.{trees_of}
use Rattle.pt_trees.specs.Rendezvous.{AllPlaced}
use Rattle.pt_rv_inside.proofs.met.are_placed.Given as goal

abbrev pub invariant-loop-number : goal.invariant-loop-number
invariant-loop-number l = AllPlaced l.places (trees_of (map shown (take l.number l.children)))
