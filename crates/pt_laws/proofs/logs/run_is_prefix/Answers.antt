use Rattle.pt_laws.proofs.LogLaws.{run-is-prefix}
use Rattle.pt_laws.proofs.logs.run_is_prefix.Goals as goal

pub returns : goal.returns
returns g c = run-is-prefix
