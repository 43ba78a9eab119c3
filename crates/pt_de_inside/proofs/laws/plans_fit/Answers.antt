use Rattle.pt_de_inside.proofs.PlannedLaws as planned_laws
use Rattle.pt_de_inside.proofs.laws.plans_fit.Goals as goal

pub returns : goal.returns
returns c = planned_laws.plans-fit
