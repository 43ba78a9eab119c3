use Rattle.pt_laws.proofs.RunLaws.{run-done}
use Rattle.pt_laws.proofs.run_ends.Goals as goal

pub returns : goal.returns
returns g c = run-done
