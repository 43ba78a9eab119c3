use Rattle.std.proofs.Common.{◌≡◌, length}
use Rattle.pt_wakes.specs.Queue.{with_front, IsFront}
use Rattle.pt_wakes.proofs.ahead.put_back.Given as goal

abbrev pub invariant-loop-child : goal.invariant-loop-child
invariant-loop-child l = record {
  front : IsFront l.depth l.behind l.front.items;
  same : with_front l.front.items l.depth l.behind ≡ with_front l.fn.front.items l.depth l.fn.behind;
}

abbrev pub decreases-loop-child : goal.decreases-loop-child
decreases-loop-child l = length l.front.items
