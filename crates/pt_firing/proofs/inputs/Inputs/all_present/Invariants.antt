use Rattle.std.proofs.Common.{◌≡◌, drop}
use Rattle.pt_firing.specs.Row.{all_present}
use Rattle.pt_firing.proofs.inputs.Inputs.all_present.Given as goal

abbrev pub invariant-loop-place : goal.invariant-loop-place
invariant-loop-place l = all_present (drop l.place l.self) ≡ all_present l.self
