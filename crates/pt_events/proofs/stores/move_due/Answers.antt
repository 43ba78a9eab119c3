use Rattle.std.proofs.Common.{◌≡◌, true, refl, ◌∙◌, arith}
use Rattle.std.proofs.lemmas.List.Elements.{All-cons}
use Rattle.std.proofs.lemmas.List.Sorted.{All-permutation}
use Rattle.std.specs.BinaryHeap.{heap_items}
use Rattle.pt_events.specs.Queue.{is_due}
use Rattle.pt_events.specs.Stores.{due_entry}
use Rattle.pt_events.proofs.QueueLaws.{moved-on}
use Rattle.pt_events.proofs.stores.move_due.Goals as goal

pub loop-entry-preserved : goal.loop-entry-preserved
loop-entry-preserved c = record {
  heaps = record { by_tag = c.in-Some.ensures.heap; by_depth = c.push_reserved.ensures.heap_order c.loop-entry.invariant.heaps.by_depth };
  room = record {
    in_first = omega (arith, c.push_reserved.ensures.len, c.in-Some.ensures.len, c.in-Some.ensures.capacity, c.loop-entry.invariant.room.in_first);
    in_second = omega (arith, c.push_reserved.ensures.len, c.push_reserved.ensures.capacity, c.in-Some.ensures.len, c.loop-entry.invariant.room.in_second);
  };
  past = All-permutation (λ e. is_due c.args.tag (due_entry e) ≡ true) _ (heap_items c.push_reserved.new.heap) c.push_reserved.ensures.items (All-cons (λ e. is_due c.args.tag (due_entry e) ≡ true) _ (heap_items c.loop-entry.due) c.in-Some.ensures.due c.loop-entry.invariant.past);
  queue = moved-on _ _ _ _ _ _ refl c.in-Some.ensures.items c.push_reserved.ensures.items ∙ c.loop-entry.invariant.queue;
}
