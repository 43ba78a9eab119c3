use Rattle.pt_laws.proofs.WholeMeaning.{logs-are-closed}
use Rattle.pt_laws.proofs.closed.logs_are_closed.Goals as goal

pub returns : goal.returns
returns g c = logs-are-closed
