use Rattle.std.proofs.Common.{◌≡◌, ◌+◌, ◌<◌, drop}
use Rattle.pt_wakes.specs.Nodes.{node, IsTreeBut}
use Rattle.pt_wakes.proofs.nodes.settle_above.Given as goal

abbrev pub invariant-loop-p : goal.invariant-loop-p
invariant-loop-p l = record {
  above : 0 < l.p;
  within : l.p < l.leaves + l.leaves;
  tree : IsTreeBut l.p l.leaves l.nodes.items;
  least : node l.nodes.items l.p ≡ l.least;
  leaves : drop l.leaves l.nodes.items ≡ drop l.leaves l.fn.nodes.items;
}

abbrev pub decreases-loop-p : goal.decreases-loop-p
decreases-loop-p l = l.p
