use Rattle.std.proofs.Common.{◌≡◌, map, drop}
use Rattle.pt_sdf_parts.specs.Feeds.{target_of, allowed_by}
use Rattle.pt_sdf_parts.proofs.turns.iterations.Given as goal

abbrev pub invariant-loop-k : goal.invariant-loop-k
invariant-loop-k l = l.least ≡ allowed_by l.takes (map target_of (drop l.k l.arrivals)) l.channels.lists
