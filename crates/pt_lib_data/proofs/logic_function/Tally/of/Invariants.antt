use Rattle.std.proofs.Common.{◌≡◌, ◌≤◌, ◌+◌, drop}
use Rattle.pt_lib_data.specs.LogicFunction.{given, trues}
use Rattle.pt_lib_data.proofs.logic_function.Tally.of.Given as goal

abbrev pub invariant-loop-place : goal.invariant-loop-place
invariant-loop-place l = (l.tally.given + given (drop l.place l.inputs) ≡ given l.inputs) × (l.tally.trues + trues (drop l.place l.inputs) ≡ trues l.inputs) × (l.tally.trues ≤ l.tally.given) × (l.tally.given ≤ l.place)
