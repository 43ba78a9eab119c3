use Rattle.pt_laws.proofs.CompositeLaws.{run-grows}
use Rattle.pt_laws.proofs.composites.run_grows.Goals as goal

pub returns : goal.returns
returns g c = run-grows
