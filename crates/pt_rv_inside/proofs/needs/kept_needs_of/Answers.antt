use Rattle.std.proofs.Common.{List, ap, ◌∙◌, map}
use Rattle.pt_puts.specs.declared.need.KeptNeed.{KeptNeed}
use Rattle.pt_puts.specs.Need.{need_in}
use Rattle.pt_rv_inside.proofs.LoopLaws.{needs-more}
use Rattle.pt_rv_inside.proofs.needs.kept_needs_of.Goals as goal

pub loop-child-preserved : goal.loop-child-preserved
loop-child-preserved c =
    ap (λ (v : List KeptNeed). map need_in v) c.in_ok-push.ensures.items ∙ needs-more c.args.children.now c.loop-child.child-index c.child-item.result c.loop-child.needs.items c.in_ok-need.need c.loop-child-test.true c.child-item.is c.loop-child.invariant c.in_ok-need.ensures
