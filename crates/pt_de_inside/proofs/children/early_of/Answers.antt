use Rattle.std.proofs.Common.{◌∙◌}
use Rattle.pt_trees.specs.De.{answers_early}
use Rattle.pt_de_inside.proofs.StepLaws.{told-more}
use Rattle.pt_de_inside.proofs.children.early_of.Goals as goal

pub loop-child-preserved : goal.loop-child-preserved
loop-child-preserved c =
    c.in_ok-push.ensures.items ∙ told-more answers_early c.args.children.now c.loop-child.child-index c.child-item.result c.loop-child.flags.items c.answers_early.result c.loop-child-test.true c.child-item.is c.loop-child.invariant c.answers_early.ensures
