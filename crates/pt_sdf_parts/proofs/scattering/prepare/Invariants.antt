use Rattle.std.proofs.Common.{◌≡◌, ℕ, ◌<◌, ◌≤◌, ◌++◌, length, get_or}
use Rattle.pt_recv.specs.Lines.{spare_at}
use Rattle.pt_meaning.specs.Streams.{at}
use Rattle.pt_sdf_parts.specs.Feeds.{no_feed, copies_for}
use Rattle.pt_sdf_parts.proofs.scattering.prepare.Given as goal

abbrev pub invariant-loop-k : goal.invariant-loop-k
invariant-loop-k l = record {
  lists : l.channels.lists ≡ l.fn.channels.lists;
  staged : l.staged.list ++ copies_for l.k l.feeds l.outputs ≡ copies_for (length l.feeds) l.feeds l.outputs;
  room : (j : ℕ) → l.k ≤ j → j < length l.feeds → length (at l.outputs (get_or l.feeds j no_feed).port) ≤ spare_at l.channels.spares (get_or l.feeds j no_feed).channel;
}
