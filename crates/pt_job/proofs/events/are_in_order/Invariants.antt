use Rattle.std.proofs.Common.{◌≡◌, drop}
use Rattle.pt_job.specs.Inputs.{in_order_after, are_in_order}
use Rattle.pt_job.proofs.events.are_in_order.Given as goal

abbrev pub invariant-loop-event : goal.invariant-loop-event
invariant-loop-event l = in_order_after l.last (drop l.event-index l.events) ≡ are_in_order l.events
