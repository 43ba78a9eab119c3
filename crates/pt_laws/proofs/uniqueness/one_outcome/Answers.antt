use Rattle.pt_laws.proofs.OutcomeLaws.{one-outcome}
use Rattle.pt_laws.proofs.uniqueness.one_outcome.Goals as goal

pub returns : goal.returns
returns g c = one-outcome
