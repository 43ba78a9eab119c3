use Rattle.std.proofs.Common.{◌≡◌, ℕ, ◌+◌, ◌*◌, ◌<◌, ◌≤◌, length, min, take, drop, get_or, None}
use Rattle.std.specs.Vec.{vec_len, vec_capacity}
use Rattle.pt_meaning.specs.Kahn.{firsts}
use Rattle.pt_meaning.specs.Sdf.{times}
use Rattle.pt_recv.specs.Lines.{list_at}
use Rattle.pt_sdf_parts.specs.ByNeed.{skip_at}
use Rattle.pt_sdf_parts.specs.Rooms.{HasRoom}
use Rattle.pt_sdf_parts.proofs.outlets.hand_out.Given as goal

abbrev pub invariant-loop-k : goal.invariant-loop-k
invariant-loop-k l = record {
  counted : vec_len l.lists ≡ l.k;
  room : vec_capacity l.lists ≡ length l.gives;
  rooms : length l.rooms.items ≡ length l.gives;
  made : (j : ℕ) → l.k ≤ j → j < length l.gives → HasRoom (min (l.turns * get_or l.gives j 0) (length (list_at l.fn.channels.lists (l.from + j)))) (get_or l.rooms.items j None);
  given : l.lists.items ≡ firsts (take l.k (times l.turns l.gives)) (take l.k (drop l.from l.fn.channels.lists));
  left : l.channels.lists ≡ skip_at l.from (take l.k (times l.turns l.gives)) l.fn.channels.lists;
}
