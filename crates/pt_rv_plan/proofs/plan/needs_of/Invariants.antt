use Rattle.std.proofs.Common.{◌≡◌, take}
use Rattle.pt_rv_plan.proofs.plan.needs_of.Given as goal

abbrev pub invariant-loop-need : goal.invariant-loop-need
invariant-loop-need l = l.copies.items ≡ take l.need-index l.needs
