use Rattle.std.proofs.Common.{◌≡◌, ◌++◌, map}
use Rattle.pt_rv_plan.specs.Plan.{target_of}
use Rattle.pt_rv_plan.specs.Targets.{outlets_row}
use Rattle.pt_rv_plan.proofs.targets.add_outlets.Given as goal

abbrev pub invariant-loop-outlet : goal.invariant-loop-outlet
invariant-loop-outlet l = map target_of l.targets.items ≡ map target_of l.fn.targets.items ++ outlets_row 0 l.outlet
