use Rattle.std.proofs.Common.{◌≡◌, ℕ, ◌+◌, ◌<◌, ◌≤◌, ◌⊎◌, length, take, drop, get_or, None}
use Rattle.pt_meaning.specs.Kahn.{firsts}
use Rattle.pt_sdf_parts.specs.ByNeed.{skip_at}
use Rattle.pt_sdf_parts.proofs.gathering.gather.Given as goal

abbrev pub invariant-loop-k : goal.invariant-loop-k
invariant-loop-k l = record {
  lent : take l.k (drop l.from l.lent.items) ≡ firsts (take l.k (drop l.from l.needs)) (take l.k (drop l.from l.fn.channels.lists));
  left : l.channels.lists ≡ skip_at l.from (take l.k (drop l.from l.needs)) l.fn.channels.lists;
  others : (c : ℕ) → (c < l.from) ⊎ (l.from + l.k ≤ c) ⊎ (get_or l.needs c 0 ≤ 1) → get_or l.rooms.items c None ≡ get_or l.fn.rooms.items c None;
  rooms : length l.rooms.items ≡ length l.fn.rooms.items;
  counted : length l.lent.items ≡ length l.fn.lent.items;
}
