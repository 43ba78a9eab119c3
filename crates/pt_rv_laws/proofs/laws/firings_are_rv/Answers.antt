use Rattle.pt_rv_laws.proofs.SoFarLaws.{firings-are-rv}
use Rattle.pt_rv_laws.proofs.laws.firings_are_rv.Goals as goal

pub returns : goal.returns
returns g c = firings-are-rv
