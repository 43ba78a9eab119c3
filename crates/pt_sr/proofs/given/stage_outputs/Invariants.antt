use Rattle.std.proofs.Common.{◌≡◌, ℕ, ◌<◌, drop, get_or}
use Rattle.pt_meaning.specs.Streams.{at}
use Rattle.pt_sr.specs.State.{all_of}
use Rattle.pt_sr.specs.Feeds.{no_feed}
use Rattle.pt_sr.specs.Given.{gifts}
use Rattle.pt_sr.proofs.given.stage_outputs.Given as goal

abbrev pub invariant-loop-k : goal.invariant-loop-k
invariant-loop-k l = record {
  staged : l.staged.items ≡ gifts (all_of l.fn.outputs) (drop l.k l.feeds);
  ports : (j : ℕ) → j < l.k → at l.outputs (get_or l.feeds j no_feed).port ≡ at l.fn.outputs (get_or l.feeds j no_feed).port;
}
