use Rattle.pt_wakes.proofs.KeyLaws.{made}
use Rattle.pt_wakes.proofs.due.DueChildren.new.Goals as goal

pub invariant_of-result : goal.invariant_of-result
invariant_of-result c = made c.in_ok-from_slice.field-0.items c.args.depths.now c.in_ok-due.due.items c.in_ok-queue.queue c.in_ok-from_slice.ensures.items c.in_ok-due.ensures c.in_ok-queue.ensures
