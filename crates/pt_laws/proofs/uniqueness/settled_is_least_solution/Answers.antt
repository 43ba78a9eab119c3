use Rattle.pt_laws.proofs.UniqueLaws.{settled-is-least-solution}
use Rattle.pt_laws.proofs.uniqueness.settled_is_least_solution.Goals as goal

pub returns : goal.returns
returns g c = settled-is-least-solution
