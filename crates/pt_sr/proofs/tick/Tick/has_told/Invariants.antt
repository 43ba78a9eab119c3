use Rattle.std.proofs.Common.{◌≡◌, ℕ, ◌<◌, true, get_or}
use Rattle.pt_meaning.specs.Machine.{partial_at}
use Rattle.pt_meaning.specs.Valuation.{is_known}
use Rattle.pt_sr.specs.Feeds.{no_feed}
use Rattle.pt_sr.proofs.tick.Tick.has_told.Given as goal

abbrev pub invariant-loop-k : goal.invariant-loop-k
invariant-loop-k l = (j : ℕ) → j < l.k → is_known (partial_at l.self.known (get_or l.row.items j no_feed).channel) ≡ true
