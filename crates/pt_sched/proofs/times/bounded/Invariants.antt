use Rattle.std.proofs.Common.{◌≤◌}
use Rattle.pt_sched.proofs.times.bounded.Given as goal

abbrev pub invariant-loop-number : goal.invariant-loop-number
invariant-loop-number l = l.bounded ≤ l.times
