use Rattle.pt_laws.proofs.StartLaws.{started-logs-are-closed}
use Rattle.pt_laws.proofs.closed.started_logs_are_closed.Goals as goal

pub returns : goal.returns
returns g c = started-logs-are-closed
