use Rattle.std.proofs.Common.{◌≡◌, ◌+◌, ◌<◌, true, length}
use Rattle.pt_meaning.specs.Tag.{is_due}
use Rattle.pt_wakes.specs.Nodes.{node}
use Rattle.pt_wakes.specs.Walk.{remaining, marked}
use Rattle.pt_wakes.proofs.moved.wake_due.Given as goal

abbrev pub invariant-loop-p : goal.invariant-loop-p
invariant-loop-p l = record {
  within : l.p < l.wakes-inside.leaves + l.wakes-inside.leaves;
  due : 0 < l.p → is_due l.tag (node l.wakes-inside.nodes.items l.p) ≡ true;
  wide : length l.children.due ≡ l.wakes-inside.leaves;
  depths : l.children.depths ≡ l.fn.children.depths;
  marked : marked l.wakes-inside.leaves (remaining l.tag l.wakes-inside.leaves l.wakes-inside.nodes.items l.p) l.children.due ≡ marked l.wakes-inside.leaves (remaining l.tag l.wakes-inside.leaves l.wakes-inside.nodes.items 1) l.fn.children.due;
}

abbrev pub decreases-loop-p : goal.decreases-loop-p
decreases-loop-p l = length (remaining l.tag l.wakes-inside.leaves l.wakes-inside.nodes.items l.p)
