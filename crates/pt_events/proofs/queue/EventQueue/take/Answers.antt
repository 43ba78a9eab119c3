use Rattle.std.proofs.Common.{◌≡◌, ap, ◌∙◌}
use Rattle.std.specs.BinaryHeap.{heap_items}
use Rattle.pt_events.specs.Queue.{taken, left}
use Rattle.pt_events.specs.Stores.{queue_of}
use Rattle.pt_events.proofs.PopLaws.{stored-popped, taken-popped, left-popped, none-counted, none-same}
use Rattle.pt_events.proofs.queue.EventQueue.take.Goals as goal
use Rattle.pt_events.proofs.queue.EventQueue.take.Goals.{then-not-is_up_to, else-not-is_up_to}

pub invariant_of-self : goal.invariant_of-self
invariant_of-self c =
    stored-popped c.args.tag c.move_due.new.later c.move_due.new.due c.pop.new.self c.pop.result c.move_due.ensures.heaps c.move_due.ensures.room c.move_due.ensures.past c.pop.ensures.len c.pop.ensures.capacity c.pop.ensures.permutation c.pop.ensures.heap_order c.pop.ensures.unchanged

pub returns-clause-actor : goal.returns-clause-actor
returns-clause-actor c =
    let joined : queue_of (heap_items c.if-not-is_up_to.self-inside.later) (heap_items c.if-not-is_up_to.self-inside.due) ≡ c.args.self.now = elim c.if-not-is_up_to.branch [
      | then-not-is_up_to w ↦ (λ i. queue_of (heap_items (w.self-inside-is i).later) (heap_items (w.self-inside-is i).due)) ∙ w.move_back.ensures.queue ∙ c.self.view_is
      | else-not-is_up_to w ↦ (λ i. queue_of (heap_items (w.self-inside-is i).later) (heap_items (w.self-inside-is i).due)) ∙ c.self.view_is
    ] in
    c.actor_of.ensures ∙ taken-popped c.args.tag (heap_items c.move_due.new.later) (heap_items c.move_due.new.due) (heap_items c.pop.new.self) c.move_due.ensures.rest c.move_due.ensures.past c.move_due.ensures.heaps.by_depth c.pop.result c.pop.ensures.permutation c.pop.ensures.heap_order (none-counted c.pop.result _ _ c.move_due.new.due.data.ok.0 c.pop.ensures.none) ∙ ap (taken c.args.tag) (c.move_due.ensures.queue ∙ joined)

pub returns-clause-rest : goal.returns-clause-rest
returns-clause-rest c =
    let joined : queue_of (heap_items c.if-not-is_up_to.self-inside.later) (heap_items c.if-not-is_up_to.self-inside.due) ≡ c.args.self.now = elim c.if-not-is_up_to.branch [
      | then-not-is_up_to w ↦ (λ i. queue_of (heap_items (w.self-inside-is i).later) (heap_items (w.self-inside-is i).due)) ∙ w.move_back.ensures.queue ∙ c.self.view_is
      | else-not-is_up_to w ↦ (λ i. queue_of (heap_items (w.self-inside-is i).later) (heap_items (w.self-inside-is i).due)) ∙ c.self.view_is
    ] in
    left-popped c.args.tag (heap_items c.move_due.new.later) (heap_items c.move_due.new.due) (heap_items c.pop.new.self) c.move_due.ensures.rest c.move_due.ensures.past c.move_due.ensures.heaps.by_depth c.pop.result c.pop.ensures.permutation c.pop.ensures.heap_order (none-counted c.pop.result _ _ c.move_due.new.due.data.ok.0 c.pop.ensures.none) (none-same c.pop.result c.move_due.new.due c.pop.new.self c.pop.ensures.unchanged) ∙ ap (left c.args.tag) (c.move_due.ensures.queue ∙ joined)
