use Rattle.std.proofs.Common.{◌≡◌}
use Rattle.pt_plan.specs.Unfed.{unfed_among}
use Rattle.pt_plan.proofs.unfed.unfed_inputs.Given as goal

abbrev pub invariant-loop-port : goal.invariant-loop-port
invariant-loop-port l = l.unfed.items ≡ unfed_among l.sources l.port
