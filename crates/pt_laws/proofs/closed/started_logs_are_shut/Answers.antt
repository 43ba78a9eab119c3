use Rattle.pt_laws.proofs.StartLaws.{started-logs-are-shut}
use Rattle.pt_laws.proofs.closed.started_logs_are_shut.Goals as goal

pub returns : goal.returns
returns g c = started-logs-are-shut
