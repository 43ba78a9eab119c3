use Rattle.std.proofs.Common.{◌≡◌, ap, ◌∙◌}
use Rattle.pt_sched.specs.Stretches.{spread}
use Rattle.pt_sched.proofs.InTurn.{upto-more}
use Rattle.pt_sched.proofs.forward.one_each.Goals as goal

pub loop-child-preserved : goal.loop-child-preserved
loop-child-preserved c = ap spread c.in_ok-push.ensures.items ∙ upto-more c.loop-child.order.items c.loop-child.child c.loop-child.invariant
