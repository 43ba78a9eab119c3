use Rattle.std.proofs.Common.{◌≡◌, drop}
use Rattle.pt_lib_data.specs.Equals.{all_agree}
use Rattle.pt_lib_data.proofs.equals.all_agree.Given as goal

abbrev pub invariant-loop-place : goal.invariant-loop-place
invariant-loop-place l = all_agree l.token (drop l.place l.inputs) ≡ all_agree l.token l.inputs
