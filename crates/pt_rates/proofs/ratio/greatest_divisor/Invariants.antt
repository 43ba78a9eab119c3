use Rattle.pt_rates.proofs.Euclid.{AreReduced}
use Rattle.pt_rates.proofs.ratio.greatest_divisor.Given as goal

abbrev pub invariant-loop-small : goal.invariant-loop-small
invariant-loop-small l = AreReduced l.x l.y l.large l.small

abbrev pub decreases-loop-small : goal.decreases-loop-small
decreases-loop-small l = l.small
