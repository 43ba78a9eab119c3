use Rattle.std.proofs.Common.{◌≡◌, map, take}
use Rattle.pt_rv_plan.specs.Plan.{target_of}
use Rattle.pt_rv_plan.specs.Targets.{targets_to}
use Rattle.pt_rv_plan.proofs.targets.targets_of.Given as goal

abbrev pub invariant-loop-process : goal.invariant-loop-process
invariant-loop-process l = map target_of l.targets.items ≡ targets_to 0 (take l.process l.places)
