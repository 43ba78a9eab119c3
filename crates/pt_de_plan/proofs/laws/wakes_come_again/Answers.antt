use Rattle.pt_de_plan.proofs.AgainLaws.{comes-again}
use Rattle.pt_de_plan.proofs.laws.wakes_come_again.Goals as goal

pub returns : goal.returns
returns g c = λ rows node f later t. comes-again rows node later t f
