use Rattle.std.proofs.Common.{◌≡◌, ◌≤◌, drop}
use Rattle.pt_wakes.specs.Nodes.{IsTreeFrom}
use Rattle.pt_wakes.proofs.nodes.settle_all.Given as goal

abbrev pub invariant-loop-p : goal.invariant-loop-p
invariant-loop-p l = record {
  within : l.p ≤ l.leaves;
  tree : IsTreeFrom l.p l.leaves l.nodes.items;
  leaves : drop l.leaves l.nodes.items ≡ drop l.leaves l.fn.nodes.items;
}

abbrev pub decreases-loop-p : goal.decreases-loop-p
decreases-loop-p l = l.p
