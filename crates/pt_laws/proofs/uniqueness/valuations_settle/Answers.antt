use Rattle.pt_laws.proofs.UniqueLaws.{valuations-settle}
use Rattle.pt_laws.proofs.uniqueness.valuations_settle.Goals as goal

pub returns : goal.returns
returns g c = valuations-settle
