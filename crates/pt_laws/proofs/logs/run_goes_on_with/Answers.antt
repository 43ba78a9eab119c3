use Rattle.pt_laws.proofs.RunLaws.{running-step-with}
use Rattle.pt_laws.proofs.logs.run_goes_on_with.Goals as goal

pub returns : goal.returns
returns g c = running-step-with
