use Rattle.pt_laws.proofs.RunLaws.{running-start}
use Rattle.pt_laws.proofs.run_begins.Goals as goal

pub returns : goal.returns
returns g c = running-start
