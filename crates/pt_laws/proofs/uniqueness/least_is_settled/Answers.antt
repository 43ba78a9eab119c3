use Rattle.pt_laws.proofs.UniqueLaws.{least-is-settled}
use Rattle.pt_laws.proofs.uniqueness.least_is_settled.Goals as goal

pub returns : goal.returns
returns g c = least-is-settled
