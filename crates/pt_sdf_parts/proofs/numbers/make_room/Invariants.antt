use Rattle.std.proofs.Common.{◌≡◌, ℕ, ◌<◌, ◌≤◌, length, get_or}
use Rattle.pt_recv.specs.Lines.{spare_at}
use Rattle.pt_sdf_parts.specs.Feeds.{no_feed}
use Rattle.pt_sdf_parts.proofs.numbers.make_room.Given as goal

abbrev pub invariant-loop-k : goal.invariant-loop-k
invariant-loop-k l = record {
  lists : l.channels.lists ≡ l.fn.channels.lists;
  room : (j : ℕ) → l.k ≤ j → j < length l.feeds → l.n ≤ spare_at l.channels.spares (get_or l.feeds j no_feed).channel;
}
