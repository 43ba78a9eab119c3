use Rattle.std.proofs.Common.{◌≡◌, take, length}
use Rattle.std.specs.Vec.{vec_len, vec_capacity}
use Rattle.pt_sdf_parts.proofs.scattering.copies_of.Given as goal

abbrev pub invariant-loop-place : goal.invariant-loop-place
invariant-loop-place l = (l.lists.items ≡ take l.place l.inputs) × (vec_len l.lists ≡ l.place) × (vec_capacity l.lists ≡ length l.inputs)
