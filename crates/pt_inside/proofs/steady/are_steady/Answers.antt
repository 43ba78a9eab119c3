use Rattle.std.proofs.Common.{◌∙◌, sym}
use Rattle.pt_inside.proofs.LoopLaws.{steady-more, unsteady-at}
use Rattle.pt_inside.proofs.steady.are_steady.Goals as goal

pub returns-then-not-is_steady-clause-no : goal.returns-then-not-is_steady-clause-no
returns-then-not-is_steady-clause-no c = λ e around. unsteady-at around c.args.children.now c.loop-child.child-index c.child-item.result c.loop-child-test.true c.child-item.is (sym c.is_steady.ensures ∙ c.if-not-is_steady.true)

pub loop-child-preserved : goal.loop-child-preserved
loop-child-preserved c = steady-more c.args.children.now c.loop-child.child-index c.child-item.result c.loop-child-test.true c.child-item.is c.loop-child.invariant (sym c.is_steady.ensures ∙ c.if-not-is_steady.false)
