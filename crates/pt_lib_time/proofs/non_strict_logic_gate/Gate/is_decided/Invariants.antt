use Rattle.std.proofs.Common.{◌≡◌, drop}
use Rattle.pt_lib_time.specs.NonStrictLogicGate.{is_decided}
use Rattle.pt_lib_time.proofs.non_strict_logic_gate.Gate.is_decided.Given as goal

abbrev pub invariant-loop-place : goal.invariant-loop-place
invariant-loop-place l = is_decided l.self (drop l.place l.partial) ≡ is_decided l.self l.partial
