use Rattle.std.proofs.Common.{◌≡◌, take}
use Rattle.pt_sdf_parts.proofs.plan.copies.Given as goal

abbrev pub invariant-loop-counts : goal.invariant-loop-counts
invariant-loop-counts l = l.copies.items ≡ take l.counts-index l.rates
