use Rattle.std.proofs.Common.{◌≡◌, take}
use Rattle.pt_firing.specs.IntInputs.{one_at_each}
use Rattle.pt_library.proofs.integers.put_integers.Given as goal

abbrev pub invariant-loop-place : goal.invariant-loop-place
invariant-loop-place l = one_at_each l.row.items ≡ take l.place l.inputs
