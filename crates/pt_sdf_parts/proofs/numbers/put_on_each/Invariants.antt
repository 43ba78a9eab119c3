use Rattle.std.proofs.Common.{◌≡◌, ℕ, ◌<◌, ◌≤◌, [], ◌∷◌, length, map, drop, get_or}
use Rattle.pt_value.specs.declared.token.Token.TheVariants.{Int}
use Rattle.pt_recv.specs.Lines.{spare_at}
use Rattle.pt_sdf_parts.specs.Feeds.{no_feed, target_of, put_back}
use Rattle.pt_sdf_parts.proofs.numbers.put_on_each.Given as goal

abbrev pub invariant-loop-k : goal.invariant-loop-k
invariant-loop-k l = record {
  lists : l.channels.lists ≡ put_back (map target_of (drop l.k l.feeds)) (map Int l.numbers ∷ []) l.fn.channels.lists;
  counted : length l.channels.lists ≡ length l.fn.channels.lists;
  room : (j : ℕ) → j < l.k → length l.numbers ≤ spare_at l.channels.spares (get_or l.feeds j no_feed).channel;
}
