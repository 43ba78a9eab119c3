use Rattle.std.proofs.Common.{◌≡◌, ℕ, ◌<◌, length, map, get_or, true, false}
use Rattle.pt_sdf_parts.specs.Feeds.{no_feed, target_of}
use Rattle.pt_sdf_parts.proofs.feeds.mark.Given as goal

abbrev pub invariant-loop-k : goal.invariant-loop-k
invariant-loop-k l = record {
  counted : length l.row.items ≡ length l.fn.row.items;
  targets : map target_of l.row.items ≡ map target_of l.fn.row.items;
  ports : length l.seen.items ≡ l.ports;
  sighted : (j : ℕ) → j < l.k → (get_or l.row.items j no_feed).port < l.ports → get_or l.seen.items (get_or l.row.items j no_feed).port false ≡ true;
  once : (i j : ℕ) → i < j → j < l.k → (get_or l.row.items j no_feed).moves ≡ true → (get_or l.row.items i no_feed).port ≡ (get_or l.row.items j no_feed).port → ⊥;
}
