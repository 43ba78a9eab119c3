use Rattle.pt_de_plan.proofs.AgainLaws.{wakes-at-start}
use Rattle.pt_de_plan.proofs.laws.starts_wake_again.Goals as goal

pub returns : goal.returns
returns g c = λ rows node s. wakes-at-start rows node s
