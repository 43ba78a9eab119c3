use Rattle.std.proofs.Common.{◌≡◌, ℕ, ◌<◌, ◌≤◌, length, map, drop, get_or}
use Rattle.pt_recv.specs.Lines.{spare_at}
use Rattle.pt_meaning.specs.Streams.{at}
use Rattle.pt_sdf_parts.specs.Feeds.{no_feed, target_of, put_back, copies_for}
use Rattle.pt_sdf_parts.proofs.scattering.deliver.Given as goal

abbrev pub invariant-loop-k : goal.invariant-loop-k
invariant-loop-k l = record {
  lists : l.channels.lists ≡ put_back (map target_of (drop l.k l.feeds)) l.fn.outputs l.fn.channels.lists;
  counted : length l.channels.lists ≡ length l.fn.channels.lists;
  staged : l.staged.list ≡ copies_for l.k l.feeds l.fn.outputs;
  outputs : length l.outputs ≡ length l.fn.outputs;
  ports : (j : ℕ) → j < l.k → at l.outputs (get_or l.feeds j no_feed).port ≡ at l.fn.outputs (get_or l.feeds j no_feed).port;
  room : (j : ℕ) → j < l.k → length (at l.fn.outputs (get_or l.feeds j no_feed).port) ≤ spare_at l.channels.spares (get_or l.feeds j no_feed).channel;
}
