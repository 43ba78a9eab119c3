use Rattle.std.proofs.Common.{◌≡◌, length}
use Rattle.std.specs.Vec.{vec_len, vec_capacity}
use Rattle.pt_sdf_parts.specs.Rooms.{HaveRooms}
use Rattle.pt_sdf_parts.proofs.rooms.rooms_for.Given as goal

abbrev pub invariant-loop-n : goal.invariant-loop-n
invariant-loop-n l = (vec_len l.rooms ≡ l.n-index) × (vec_capacity l.rooms ≡ length l.needs) × HaveRooms l.needs l.rooms.items 0 l.n-index
