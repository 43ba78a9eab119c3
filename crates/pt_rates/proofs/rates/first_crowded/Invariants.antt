use Rattle.std.proofs.Common.{ℕ, ◌<◌, ◌≤◌, get_or}
use Rattle.pt_rates.specs.Balance.{tokens_on}
use Rattle.pt_rates.specs.declared.edge.Edge.{Edge}
use Rattle.pt_rates.proofs.rates.first_crowded.Given as goal

abbrev pub invariant-loop-channel : goal.invariant-loop-channel
invariant-loop-channel l = (k : ℕ) (d : Edge) → k < l.channel → tokens_on l.q (get_or l.edges k d) ≤ 1000000
