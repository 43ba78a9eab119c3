use Rattle.pt_laws.proofs.CompositeLaws.{pn-is-prefix}
use Rattle.pt_laws.proofs.composites.pn_is_prefix.Goals as goal

pub returns : goal.returns
returns g c = pn-is-prefix
