use Rattle.std.proofs.Common.{◌≡◌, drop}
use Rattle.pt_lib_time.specs.NonStrictLogicGate.{with_signal, result}
use Rattle.pt_lib_time.proofs.non_strict_logic_gate.Gate.of_present.Given as goal

abbrev pub invariant-loop-place : goal.invariant-loop-place
invariant-loop-place l = with_signal l.self l.found (result l.self (drop l.place l.inputs)) ≡ result l.self l.inputs
