use Rattle.pt_laws.proofs.StuckLaws.{run-stuck}
use Rattle.pt_laws.proofs.run_sticks.Goals as goal

pub returns : goal.returns
returns g c = run-stuck
