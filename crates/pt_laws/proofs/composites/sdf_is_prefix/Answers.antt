use Rattle.pt_laws.proofs.CompositeLaws.{sdf-is-prefix}
use Rattle.pt_laws.proofs.composites.sdf_is_prefix.Goals as goal

pub returns : goal.returns
returns g c = sdf-is-prefix
