use Rattle.std.proofs.Common.{arith}
use Rattle.pt_rates.proofs.Euclid.{reduced-start, reduced-step, reduced-end}
use Rattle.pt_rates.proofs.ratio.greatest_divisor.Goals as goal

pub loop-small-init : goal.loop-small-init
loop-small-init c = reduced-start c.args.x c.args.y

pub loop-small-preserved : goal.loop-small-preserved
loop-small-preserved c = reduced-step c.args.x c.args.y _ _ c.loop-small.invariant

pub returns : goal.returns
returns c = reduced-end c.args.x c.args.y _ _ (omega arith) c.loop-small.invariant
