use Rattle.std.proofs.Common.{◌≡◌, length, take}
use Rattle.std.specs.Vec.{vec_len, vec_capacity}
use Rattle.pt_meaning.specs.Running.{total}
use Rattle.pt_sdf_parts.specs.Lanes.{begins}
use Rattle.pt_sdf_parts.proofs.tables.offsets_of.Given as goal

abbrev pub invariant-loop-n : goal.invariant-loop-n
invariant-loop-n l = (l.offsets.items ≡ begins 0 (take l.n-index l.places)) × (l.from ≡ total (take l.n-index l.places)) × (vec_len l.offsets ≡ l.n-index) × (vec_capacity l.offsets ≡ length l.places)
