use Rattle.pt_laws.proofs.LeastLaws.{settled-solution}
use Rattle.pt_laws.proofs.settled_is_solution.Goals as goal

pub returns : goal.returns
returns g c = settled-solution
