use Rattle.pt_rv_laws.proofs.ComesLaws.{always-comes}
use Rattle.pt_rv_laws.proofs.laws.something_comes.Goals as goal

pub returns : goal.returns
returns g c = always-comes
