use Rattle.std.proofs.Common.{[], set, ap, ◌∙◌, arith, length-set}
use Rattle.pt_sr.proofs.SignalLaws.{filled_more, filled-all}
use Rattle.pt_sr.proofs.signals.empty.Goals as goal

pub loop-i-preserved : goal.loop-i-preserved
loop-i-preserved c = (
  ap (λ v. set c.loop-i.lists.items c.loop-i.i v) c.clear.ensures ∙ filled_more [] c.args.lists.now.items c.loop-i.lists.items c.loop-i.i (omega (arith, c.loop-i-test.true, c.len-i-end.ensures, c.args.lists.now.ok.0)) c.loop-i.invariant.0,
  length-set c.loop-i.lists.items c.loop-i.i _ ∙ c.loop-i.invariant.1,
)

pub returns : goal.returns
returns c = filled-all [] c.args.lists.now.items c.loop-i.lists.items c.loop-i.i (omega (arith, c.loop-i-test.false, c.len-i-end.ensures, c.args.lists.now.ok.0)) (omega (arith, c.loop-i.auto.i-end, c.len-i-end.ensures, c.args.lists.now.ok.0)) c.loop-i.invariant.0
