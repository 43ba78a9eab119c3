use Rattle.pt_de_plan.proofs.AgainLaws.{stays-whole}
use Rattle.pt_de_plan.proofs.laws.composites_stay_whole.Goals as goal

pub returns : goal.returns
returns g c = λ rows h o d kids s later t. stays-whole rows h o d kids s later t
