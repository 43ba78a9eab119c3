use Rattle.pt_laws.proofs.LeastLaws.{least-fixed}
use Rattle.pt_laws.proofs.least_is_fixed.Goals as goal

pub returns : goal.returns
returns g c = least-fixed
