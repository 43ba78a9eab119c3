use Rattle.std.proofs.Common.{◌≡◌, ◌++◌, map}
use Rattle.pt_rv_plan.specs.Plan.{target_of}
use Rattle.pt_rv_plan.specs.Targets.{places_row}
use Rattle.pt_rv_plan.proofs.targets.add_places.Given as goal

abbrev pub invariant-loop-place : goal.invariant-loop-place
invariant-loop-place l = map target_of l.targets.items ≡ map target_of l.fn.targets.items ++ places_row l.process 0 l.place
