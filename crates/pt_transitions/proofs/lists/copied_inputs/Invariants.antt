use Rattle.std.proofs.Common.{◌≡◌, take}
use Rattle.pt_transitions.proofs.lists.copied_inputs.Given as goal

abbrev pub invariant-loop-place : goal.invariant-loop-place
invariant-loop-place l = l.copies.items ≡ take l.place l.inputs
