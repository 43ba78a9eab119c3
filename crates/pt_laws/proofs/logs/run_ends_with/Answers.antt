use Rattle.pt_laws.proofs.LogLaws.{ends-with}
use Rattle.pt_laws.proofs.logs.run_ends_with.Goals as goal

pub returns : goal.returns
returns g c = ends-with
