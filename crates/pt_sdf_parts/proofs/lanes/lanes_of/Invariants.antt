use Rattle.std.proofs.Common.{◌≡◌, ℕ, ◌<◌, [], length, get_or}
use Rattle.std.specs.Vec.{vec_capacity}
use Rattle.pt_sdf_parts.specs.ByNeed.{place_of}
use Rattle.pt_sdf_parts.specs.Feeds.{rows_in}
use Rattle.pt_sdf_parts.specs.Lanes.{IsLane, no_lane}
use Rattle.pt_sdf_parts.proofs.lanes.lanes_of.Given as goal

abbrev pub invariant-loop-i : goal.invariant-loop-i
invariant-loop-i l = record {
  counted : length l.lanes.items ≡ l.i;
  room : vec_capacity l.lanes ≡ length l.places;
  each : (i : ℕ) → i < l.i → IsLane l.needs (place_of l.places i) (get_or l.places i 0) (get_or l.rates i []) (get_or (rows_in l.feeds) i []) (get_or l.lanes.items i no_lane);
}
