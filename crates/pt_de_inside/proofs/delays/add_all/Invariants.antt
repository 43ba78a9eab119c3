use Rattle.std.proofs.Common.{◌≡◌, ◌++◌, take, map}
use Rattle.pt_node.specs.Shown.{shown}
use Rattle.pt_trees.specs.Composite.{trees_of}
use Rattle.pt_trees.specs.De.{delays_of}
use Rattle.pt_de_inside.proofs.delays.add_all.Given as goal

abbrev pub invariant-loop-number : goal.invariant-loop-number
invariant-loop-number l = l.flags.items ≡ l.fn.flags.items ++ delays_of (trees_of (map shown (take l.number l.children))) (take l.number l.places)
