use Rattle.std.proofs.Common.{◌≡◌, ℕ, ◌<◌, [], get_or}
use Rattle.pt_meaning.specs.Streams.{at}
use Rattle.pt_reaction.specs.Feeds.{no_feed}
use Rattle.pt_de_reaction.proofs.gifts.are_empty.Given as goal

abbrev pub invariant-loop-k : goal.invariant-loop-k
invariant-loop-k l = (j : ℕ) → j < l.k → at l.channels.lists (get_or l.feeds j no_feed).channel ≡ []
