use Rattle.pt_laws.proofs.RunLaws.{running-step}
use Rattle.pt_laws.proofs.run_goes_on.Goals as goal

pub returns : goal.returns
returns g c = running-step
