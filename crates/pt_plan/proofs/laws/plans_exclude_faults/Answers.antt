use Rattle.pt_plan.proofs.Uniqueness.{plans-exclude}
use Rattle.pt_plan.proofs.laws.plans_exclude_faults.Goals as goal

pub returns : goal.returns
returns c = plans-exclude
