use Rattle.std.proofs.Common.{◌≡◌, ℕ, ◌<◌, ◌≤◌, length, drop, get_or}
use Rattle.pt_reaction.specs.Channels.{spare_at}
use Rattle.pt_reaction.specs.Feeds.{no_feed}
use Rattle.pt_reaction.specs.Given.{gifts, known_on}
use Rattle.pt_reaction.proofs.given.stage_partial.Given as goal

abbrev pub invariant-loop-k : goal.invariant-loop-k
invariant-loop-k l = record {
  lists : l.channels.lists ≡ l.fn.channels.lists;
  staged : l.staged.items ≡ gifts (known_on l.early) (drop l.k l.feeds);
  room : (j : ℕ) → l.k ≤ j → j < length l.feeds → length (known_on l.early (get_or l.feeds j no_feed).port) ≤ spare_at l.channels.spares (get_or l.feeds j no_feed).channel;
}
