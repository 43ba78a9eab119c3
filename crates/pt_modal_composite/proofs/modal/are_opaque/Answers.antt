use Rattle.std.proofs.Common.{◌∙◌, sym}
use Rattle.pt_modal_composite.proofs.ModalLaws.{opaque-more, plain-at}
use Rattle.pt_modal_composite.proofs.modal.are_opaque.Goals as goal

pub returns-then-not-is_opaque-clause-no : goal.returns-then-not-is_opaque-clause-no
returns-then-not-is_opaque-clause-no c = λ e all. plain-at c.args.children.now c.loop-child.child-index c.child-item.result c.loop-child-test.true c.child-item.is (sym c.is_opaque.ensures ∙ c.if-not-is_opaque.true) all

pub loop-child-preserved : goal.loop-child-preserved
loop-child-preserved c = opaque-more c.args.children.now c.loop-child.child-index c.child-item.result c.loop-child-test.true c.child-item.is c.loop-child.invariant (sym c.is_opaque.ensures ∙ c.if-not-is_opaque.false)
