use Rattle.std.proofs.Common.{◌∙◌}
use Rattle.pt_rv_inside.proofs.LoopLaws.{barriers-more}
use Rattle.pt_rv_inside.proofs.barriers.barriers_of.Goals as goal

pub loop-child-preserved : goal.loop-child-preserved
loop-child-preserved c =
    c.in_ok-push.ensures.items ∙ barriers-more c.args.children.now c.loop-child.child-index c.child-item.result c.loop-child.barriers.items c.is_barrier.result c.loop-child-test.true c.child-item.is c.loop-child.invariant c.is_barrier.ensures
