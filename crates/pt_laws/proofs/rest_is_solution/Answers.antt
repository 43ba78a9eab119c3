use Rattle.pt_laws.proofs.PhaseLaws.{rest-is}
use Rattle.pt_laws.proofs.rest_is_solution.Goals as goal

pub returns : goal.returns
returns g c = rest-is
