use Rattle.std.proofs.Common.{◌≡◌, length, vec_capacity, take}
use Rattle.pt_firing.proofs.names.Names.copy.Given as goal

abbrev pub invariant-loop-name : goal.invariant-loop-name
invariant-loop-name l = (l.names.items ≡ take l.name-index l.name-items) × (vec_capacity l.names ≡ length l.name-items)
