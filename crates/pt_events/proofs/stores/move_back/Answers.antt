use Rattle.std.proofs.Common.{◌∙◌, arith, rules}
use Rattle.pt_events.proofs.QueueLaws.{moved-back}
use Rattle.pt_events.proofs.stores.move_back.Goals as goal

pub loop-entry-preserved : goal.loop-entry-preserved
loop-entry-preserved c = record {
  heaps = record { by_tag = c.push_reserved.ensures.heap_order c.loop-entry.invariant.heaps.by_tag; by_depth = (c.in-Some.ensures.heap_order c.loop-entry.invariant.heaps.by_depth).0 };
  room = record {
    in_first = omega (arith, c.push_reserved.ensures.len, c.push_reserved.ensures.capacity, c.in-Some.ensures.len, c.loop-entry.invariant.room.in_first);
    in_second = omega (arith, c.push_reserved.ensures.len, c.in-Some.ensures.len, c.in-Some.ensures.capacity, c.loop-entry.invariant.room.in_second);
  };
  queue = moved-back _ _ _ _ _ _ c.in-Some.ensures.permutation c.push_reserved.ensures.items (first_of (cc, search rules, grind arith)) ∙ c.loop-entry.invariant.queue;
}
