use Rattle.std.proofs.Common.{false, ◌∙◌, arith, length-set}
use Rattle.pt_sr.proofs.SignalLaws.{filled_more, filled-all}
use Rattle.pt_sr.proofs.signals.lower.Goals as goal

pub loop-i-preserved : goal.loop-i-preserved
loop-i-preserved c = (
  filled_more false c.args.flags.now.items c.loop-i.flags.items c.loop-i.i (omega (arith, c.loop-i-test.true, c.len-i-end.ensures, c.args.flags.now.ok.0)) c.loop-i.invariant.0,
  length-set c.loop-i.flags.items c.loop-i.i false ∙ c.loop-i.invariant.1,
)

pub returns : goal.returns
returns c = filled-all false c.args.flags.now.items c.loop-i.flags.items c.loop-i.i (omega (arith, c.loop-i-test.false, c.len-i-end.ensures, c.args.flags.now.ok.0)) (omega (arith, c.loop-i.auto.i-end, c.len-i-end.ensures, c.args.flags.now.ok.0)) c.loop-i.invariant.0
