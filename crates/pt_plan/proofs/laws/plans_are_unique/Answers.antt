use Rattle.pt_plan.proofs.Uniqueness.{plans-unique}
use Rattle.pt_plan.proofs.laws.plans_are_unique.Goals as goal

pub returns : goal.returns
returns c = plans-unique
