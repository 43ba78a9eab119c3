use Rattle.std.proofs.Common.{◌≡◌, take}
use Rattle.pt_plan.proofs.planning.counts_of.Given as goal

abbrev pub invariant-loop-number : goal.invariant-loop-number
invariant-loop-number l = l.counts.items ≡ take l.number-index l.numbers
