use Rattle.std.proofs.Common.{◌≡◌, take, map}
use Rattle.pt_node.specs.Shown.{shown}
use Rattle.pt_trees.specs.Composite.{trees_of}
use Rattle.pt_trees.specs.Rendezvous.{is_barrier}
use Rattle.pt_rv_inside.proofs.barriers.barriers_of.Given as goal

abbrev pub invariant-loop-child : goal.invariant-loop-child
invariant-loop-child l = l.barriers.items ≡ map is_barrier (trees_of (map shown (take l.child-index l.children)))
