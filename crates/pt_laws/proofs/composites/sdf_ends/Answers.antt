use Rattle.pt_laws.proofs.CompositeLaws.{sdf-ends}
use Rattle.pt_laws.proofs.composites.sdf_ends.Goals as goal

pub returns : goal.returns
returns g c = sdf-ends
