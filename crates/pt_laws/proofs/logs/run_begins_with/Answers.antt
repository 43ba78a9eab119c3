use Rattle.pt_laws.proofs.LogLaws.{begins-with}
use Rattle.pt_laws.proofs.logs.run_begins_with.Goals as goal

pub returns : goal.returns
returns g c = begins-with
