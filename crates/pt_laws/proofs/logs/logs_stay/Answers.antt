use Rattle.pt_laws.proofs.LogLaws.{logs-stay}
use Rattle.pt_laws.proofs.logs.logs_stay.Goals as goal

pub returns : goal.returns
returns g c = logs-stay
