use Rattle.std.proofs.Common.{◌≡◌}
use Rattle.pt_sched.specs.Forward.{upto}
use Rattle.pt_sched.specs.Stretches.{spread}
use Rattle.pt_sched.proofs.forward.one_each.Given as goal

abbrev pub invariant-loop-child : goal.invariant-loop-child
invariant-loop-child l = spread l.order.items ≡ upto l.child
