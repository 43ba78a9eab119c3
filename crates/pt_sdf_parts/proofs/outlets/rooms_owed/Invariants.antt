use Rattle.std.proofs.Common.{◌≡◌, ℕ, ◌+◌, ◌*◌, ◌<◌, length, min, get_or, None}
use Rattle.std.specs.Vec.{vec_len, vec_capacity}
use Rattle.pt_recv.specs.Lines.{list_at}
use Rattle.pt_sdf_parts.specs.Rooms.{HasRoom}
use Rattle.pt_sdf_parts.proofs.outlets.rooms_owed.Given as goal

abbrev pub invariant-loop-k : goal.invariant-loop-k
invariant-loop-k l = record {
  counted : vec_len l.rooms ≡ l.k;
  room : vec_capacity l.rooms ≡ length l.gives;
  made : (j : ℕ) → j < l.k → HasRoom (min (l.turns * get_or l.gives j 0) (length (list_at l.channels.lists (l.from + j)))) (get_or l.rooms.items j None);
}
