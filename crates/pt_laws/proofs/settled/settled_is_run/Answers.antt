use Rattle.pt_laws.proofs.SettledLaws.{settled-is-run}
use Rattle.pt_laws.proofs.settled.settled_is_run.Goals as goal

pub returns : goal.returns
returns g c = settled-is-run
