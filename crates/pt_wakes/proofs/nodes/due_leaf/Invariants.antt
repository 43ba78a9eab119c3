use Rattle.std.proofs.Common.{◌≡◌, ◌+◌, ◌-◌, ◌<◌, true}
use Rattle.pt_meaning.specs.Tag.{is_due}
use Rattle.pt_wakes.specs.Nodes.{node}
use Rattle.pt_wakes.specs.Walk.{remaining}
use Rattle.pt_wakes.proofs.nodes.due_leaf.Given as goal

abbrev pub invariant-loop-p : goal.invariant-loop-p
invariant-loop-p l = record {
  above : 0 < l.p;
  within : l.p < l.leaves + l.leaves;
  due : is_due l.tag (node l.nodes l.p) ≡ true;
  first : remaining l.tag l.leaves l.nodes l.p ≡ remaining l.tag l.leaves l.nodes l.node;
}

abbrev pub decreases-loop-p : goal.decreases-loop-p
decreases-loop-p l = l.leaves + l.leaves - l.p
