use Rattle.std.proofs.Common.{sym, ap, subst, ◌∙◌, arith}
use Rattle.std.specs.BinaryHeap.{heap_items, IsHeap}
use Rattle.pt_events.specs.Placed.{placed}
use Rattle.pt_events.specs.Entries.{by_tag}
use Rattle.pt_events.specs.Stores.{AreDue, due_cmp, later_cmp, queue_of}
use Rattle.pt_events.proofs.QueueLaws.{queue-into}
use Rattle.pt_events.proofs.queue.EventQueue.put.Goals as goal

pub invariant_of-self-2 : goal.invariant_of-self-2
invariant_of-self-2 c = record {
  heaps = record {
    by_tag = c.push_reserved.ensures.heap_order (subst (IsHeap later_cmp) (sym c.in_ok-reserve.ensures.items) c.self.invariant.heaps.by_tag);
    by_depth = subst (IsHeap due_cmp) (sym c.in_ok-reserve-2.ensures.items) c.self.invariant.heaps.by_depth;
  };
  room = record {
    in_first = omega (arith, c.push_reserved.ensures.len, c.push_reserved.ensures.capacity, c.in_ok-reserve.ensures.len, c.in_ok-reserve.ensures.ok, c.in_ok-reserve-2.ensures.len, c.as_slice-2.ensures.len);
    in_second = omega (arith, c.push_reserved.ensures.len, c.in_ok-reserve.ensures.len, c.in_ok-reserve-2.ensures.len, c.in_ok-reserve-2.ensures.ok, c.as_slice.ensures.len);
  };
  past = subst (AreDue c.self.inside.last) (sym c.in_ok-reserve-2.ensures.items) c.self.invariant.past;
}

pub returns : goal.returns
returns c =
    queue-into _ _ (heap_items c.reserve-2.new.self) _ c.push_reserved.ensures.items ∙ ap (placed by_tag (record { tag = c.args.tag; depth = c.args.depth; actor = c.args.actor })) ((λ i. queue_of (c.in_ok-reserve.ensures.items i) (c.in_ok-reserve-2.ensures.items i)) ∙ c.self.view_is)
