use Rattle.std.proofs.Common.{◌∙◌}
use Rattle.pt_meaning.specs.NodeFacts.{next_of}
use Rattle.pt_library.specs.LibraryActor.{rows}
use Rattle.pt_de_inside.proofs.StepLaws.{told-more, fit-at}
use Rattle.pt_de_inside.proofs.children.wakes_of.Goals as goal

pub next-requires : goal.next-requires
next-requires c = fit-at c.args.children.now c.loop-child.child-index c.child-item.result c.loop-child-test.true c.child-item.is c.requires

pub loop-child-preserved : goal.loop-child-preserved
loop-child-preserved c =
    c.in_ok-push.ensures.items ∙ told-more (next_of rows) c.args.children.now c.loop-child.child-index c.child-item.result c.loop-child.wakes.items c.next.result c.loop-child-test.true c.child-item.is c.loop-child.invariant c.next.ensures
