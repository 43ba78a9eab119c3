use Rattle.std.proofs.Common.{arith, below_more}
use Rattle.pt_sr.proofs.tick.Tick.first_reaction.Goals as goal

pub loop-child-preserved : goal.loop-child-preserved
loop-child-preserved c = below_more _ _ c.loop-child.invariant c.in-None.ensures

pub overflow_cast-child : goal.overflow_cast-child
overflow_cast-child c = omega (arith, c.loop-child-test.true, c.children-child-end.ensures.few)

pub returns : goal.returns
returns c = (λ i l. c.loop-child.invariant i (omega (arith, l, c.loop-child-test.false, c.children-child-end.ensures.count)), (c.args.unfired, c.requires.there, c.requires.unfired))
