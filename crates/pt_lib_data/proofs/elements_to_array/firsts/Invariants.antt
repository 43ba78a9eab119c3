use Rattle.std.proofs.Common.{◌≡◌, ◌++◌, drop}
use Rattle.pt_lib_data.specs.ElementsToArray.{firsts}
use Rattle.pt_lib_data.proofs.elements_to_array.firsts.Given as goal

abbrev pub invariant-loop-place : goal.invariant-loop-place
invariant-loop-place l = l.tokens.items ++ firsts (drop l.place l.inputs) ≡ firsts l.inputs
