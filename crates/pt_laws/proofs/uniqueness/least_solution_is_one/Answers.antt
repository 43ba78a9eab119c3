use Rattle.pt_laws.proofs.UniqueLaws.{least-solution-is-one}
use Rattle.pt_laws.proofs.uniqueness.least_solution_is_one.Goals as goal

pub returns : goal.returns
returns g c = least-solution-is-one
