use Rattle.std.proofs.Common.{◌+◌, get_or, ap, ◌∙◌, arith, length-set, add-one}
use Rattle.pt_sr.proofs.OffsetLaws.{unheard-more, unheard-all}
use Rattle.pt_sr.proofs.tick.unhear.Goals as goal

pub loop-child-preserved : goal.loop-child-preserved
loop-child-preserved c = (
  unheard-more c.args.places.now c.args.heard.now.items c.loop-child.heard.items c.loop-child.child (get_or c.args.places.now c.loop-child.child 0 + 1) c.loop-child-test.true c.requires.counted c.loop-child.invariant.0 (ap (λ n. n) (add-one (get_or c.args.places.now c.loop-child.child 0))),
  length-set c.loop-child.heard.items c.loop-child.child _ ∙ c.loop-child.invariant.1,
)

pub returns : goal.returns
returns c = unheard-all c.args.places.now c.args.heard.now.items c.loop-child.heard.items c.loop-child.child (omega (arith, c.loop-child-test.false)) c.requires.counted c.loop-child.invariant.0
