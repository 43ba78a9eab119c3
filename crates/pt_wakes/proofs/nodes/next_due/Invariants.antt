use Rattle.std.proofs.Common.{◌≡◌, ◌+◌, ◌<◌}
use Rattle.pt_wakes.specs.Walk.{behind}
use Rattle.pt_wakes.proofs.nodes.next_due.Given as goal

abbrev pub invariant-loop-p : goal.invariant-loop-p
invariant-loop-p l = record {
  within : l.p < l.leaves + l.leaves;
  next : behind l.tag l.leaves l.nodes l.p ≡ behind l.tag l.leaves l.nodes l.leaf;
}

abbrev pub decreases-loop-p : goal.decreases-loop-p
decreases-loop-p l = l.p
