use Rattle.pt_de_plan.proofs.PlanLaws.{loop-unlawful}
use Rattle.pt_de_plan.proofs.laws.loops_have_no_plan.Goals as goal

pub returns : goal.returns
returns c = λ p roles children l lawful. loop-unlawful p roles children l lawful
