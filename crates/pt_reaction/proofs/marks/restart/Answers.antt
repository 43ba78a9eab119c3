use Rattle.std.proofs.Common.{◌∙◌, arith, length-set}
use Rattle.pt_reaction.proofs.Fills.{filled_more, filled-all}
use Rattle.pt_reaction.proofs.marks.restart.Goals as goal

pub loop-k-preserved : goal.loop-k-preserved
loop-k-preserved c = (
  filled_more 0 c.args.stamps.now.items c.loop-k.stamps.items c.loop-k.k (omega (arith, c.loop-k-test.true, c.len-k-end.ensures, c.args.stamps.now.ok.0)) c.loop-k.invariant.0,
  length-set c.loop-k.stamps.items c.loop-k.k 0 ∙ c.loop-k.invariant.1,
)

pub returns : goal.returns
returns c = filled-all 0 c.args.stamps.now.items c.loop-k.stamps.items c.loop-k.k (omega (arith, c.loop-k-test.false, c.len-k-end.ensures, c.args.stamps.now.ok.0)) (omega (arith, c.loop-k.auto.k-end, c.len-k-end.ensures, c.args.stamps.now.ok.0)) c.loop-k.invariant.0
