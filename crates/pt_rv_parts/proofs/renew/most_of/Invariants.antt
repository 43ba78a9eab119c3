use Rattle.std.proofs.Common.{ℕ, ◌<◌, ◌≤◌, get_or}
use Rattle.pt_rv_parts.proofs.renew.most_of.Given as goal

abbrev pub invariant-loop-count : goal.invariant-loop-count
invariant-loop-count l = (r : ℕ) → r < l.count-index → get_or l.counts r 0 ≤ l.most
