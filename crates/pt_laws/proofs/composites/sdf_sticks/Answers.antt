use Rattle.pt_laws.proofs.CompositeLaws.{sdf-sticks}
use Rattle.pt_laws.proofs.composites.sdf_sticks.Goals as goal

pub returns : goal.returns
returns g c = sdf-sticks
