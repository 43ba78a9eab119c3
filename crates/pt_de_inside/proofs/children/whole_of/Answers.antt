use Rattle.std.proofs.Common.{◌∙◌}
use Rattle.pt_meaning.specs.NodeFacts.{whole_of}
use Rattle.pt_library.specs.LibraryActor.{rows}
use Rattle.pt_de_inside.proofs.StepLaws.{told-more}
use Rattle.pt_de_inside.proofs.children.whole_of.Goals as goal

pub loop-child-preserved : goal.loop-child-preserved
loop-child-preserved c =
    c.in_ok-push.ensures.items ∙ told-more (whole_of rows) c.args.children.now c.loop-child.child-index c.child-item.result c.loop-child.flags.items c.whole.result c.loop-child-test.true c.child-item.is c.loop-child.invariant c.whole.ensures
