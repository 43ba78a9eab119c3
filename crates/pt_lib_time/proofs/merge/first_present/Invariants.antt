use Rattle.std.proofs.Common.{◌≡◌, drop}
use Rattle.pt_lib_time.specs.Merge.{first_present}
use Rattle.pt_lib_time.proofs.merge.first_present.Given as goal

abbrev pub invariant-loop-place : goal.invariant-loop-place
invariant-loop-place l = first_present (drop l.place l.inputs) ≡ first_present l.inputs
