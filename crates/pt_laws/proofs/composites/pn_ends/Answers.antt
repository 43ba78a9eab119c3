use Rattle.pt_laws.proofs.CompositeLaws.{pn-ends}
use Rattle.pt_laws.proofs.composites.pn_ends.Goals as goal

pub returns : goal.returns
returns g c = pn-ends
