use Rattle.pt_de_plan.proofs.PlanLaws.{plan-lawful}
use Rattle.pt_de_plan.proofs.planning.plan.Goals as goal

pub returns-in-Ok-clause-lawful : goal.returns-in-Ok-clause-lawful
returns-in-Ok-clause-lawful c = plan-lawful c.args.inside c.requires c.in-Ok.depths.items c.in-Ok.ensures.depths
