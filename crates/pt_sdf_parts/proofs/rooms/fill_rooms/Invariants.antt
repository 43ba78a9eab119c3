use Rattle.std.proofs.Common.{◌≡◌, ℕ, length, get_or, None}
use Rattle.pt_sdf_parts.specs.Rooms.{HasRoom, HaveRooms}
use Rattle.pt_sdf_parts.proofs.rooms.fill_rooms.Given as goal

abbrev pub invariant-loop-k : goal.invariant-loop-k
invariant-loop-k l = record {
  counted : length l.rooms.items ≡ length l.fn.rooms.items;
  kept : (c : ℕ) → HasRoom (get_or l.needs c 0) (get_or l.fn.rooms.items c None) → HasRoom (get_or l.needs c 0) (get_or l.rooms.items c None);
  made : HaveRooms l.needs l.rooms.items l.from l.k;
}
