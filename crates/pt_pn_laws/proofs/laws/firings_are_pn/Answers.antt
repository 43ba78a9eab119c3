use Rattle.pt_pn_laws.proofs.SoFarLaws.{firings-are-pn}
use Rattle.pt_pn_laws.proofs.laws.firings_are_pn.Goals as goal

pub returns : goal.returns
returns g c = firings-are-pn
