use Rattle.std.proofs.Common.{◌≡◌, ◌++◌}
use Rattle.pt_node.specs.Shown.{shown_node}
use Rattle.pt_node.specs.View.{node_of}
use Rattle.pt_trees.specs.De.{delays_from}
use Rattle.pt_de_inside.proofs.delays.add_delays.Given as goal

abbrev pub invariant-loop-place : goal.invariant-loop-place
invariant-loop-place l = l.flags.items ≡ l.fn.flags.items ++ delays_from (node_of (shown_node l.child)) 0 l.place
