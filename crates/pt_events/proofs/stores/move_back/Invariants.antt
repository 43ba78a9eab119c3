use Rattle.std.proofs.Common.{◌≡◌}
use Rattle.std.specs.BinaryHeap.{heap_items, heap_len}
use Rattle.pt_events.specs.Stores.{AreHeaps, HaveRoom, queue_of}
use Rattle.pt_events.proofs.stores.move_back.Given as goal

abbrev pub invariant-loop-entry : goal.invariant-loop-entry
invariant-loop-entry l = record {
  heaps : AreHeaps (heap_items l.later) (heap_items l.due);
  room : HaveRoom l.later l.due;
  queue : queue_of (heap_items l.later) (heap_items l.due) ≡ queue_of (heap_items l.fn.later) (heap_items l.fn.due);
}

abbrev pub decreases-loop-entry : goal.decreases-loop-entry
decreases-loop-entry l = heap_len l.due
