use Rattle.pt_laws.proofs.CompositeLaws.{pn-sticks}
use Rattle.pt_laws.proofs.composites.pn_sticks.Goals as goal

pub returns : goal.returns
returns g c = pn-sticks
