use Rattle.pt_laws.proofs.UniqueLaws.{least-is-one}
use Rattle.pt_laws.proofs.uniqueness.least_is_one.Goals as goal

pub returns : goal.returns
returns g c = least-is-one
