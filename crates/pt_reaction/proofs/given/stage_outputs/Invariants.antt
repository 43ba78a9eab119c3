use Rattle.std.proofs.Common.{◌≡◌, ℕ, ◌<◌, ◌≤◌, length, drop, get_or}
use Rattle.pt_meaning.specs.Streams.{at}
use Rattle.pt_reaction.specs.Channels.{spare_at}
use Rattle.pt_reaction.specs.Feeds.{no_feed}
use Rattle.pt_reaction.specs.Given.{gifts}
use Rattle.pt_reaction.proofs.given.stage_outputs.Given as goal

abbrev pub invariant-loop-k : goal.invariant-loop-k
invariant-loop-k l = record {
  lists : l.channels.lists ≡ l.fn.channels.lists;
  staged : l.staged.items ≡ gifts (at l.fn.outputs) (drop l.k l.feeds);
  room : (j : ℕ) → l.k ≤ j → j < length l.feeds → length (at l.fn.outputs (get_or l.feeds j no_feed).port) ≤ spare_at l.channels.spares (get_or l.feeds j no_feed).channel;
  ports : (j : ℕ) → j < l.k → at l.outputs (get_or l.feeds j no_feed).port ≡ at l.fn.outputs (get_or l.feeds j no_feed).port;
}
