use Rattle.pt_de_plan.proofs.PlanLaws.{depths-alone}
use Rattle.pt_de_plan.proofs.laws.depths_are_alone.Goals as goal

pub returns : goal.returns
returns c = λ p delayed a b h k. depths-alone p delayed a b h k
