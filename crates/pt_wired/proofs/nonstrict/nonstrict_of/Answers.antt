use Rattle.std.proofs.Common.{◌∙◌}
use Rattle.pt_wired.proofs.FlagLaws.{flags-more}
use Rattle.pt_wired.proofs.nonstrict.nonstrict_of.Goals as goal

pub loop-child-preserved : goal.loop-child-preserved
loop-child-preserved c =
    c.in_ok-push.ensures.items ∙ flags-more c.args.children.now c.loop-child.child-index c.child-item.result c.loop-child.flags.items c.is_nonstrict.result c.loop-child-test.true c.child-item.is c.loop-child.invariant c.is_nonstrict.ensures
