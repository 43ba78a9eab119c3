use Rattle.pt_de_laws.proofs.LeftLaws.{calls-are-de}
use Rattle.pt_de_laws.proofs.laws.calls_are_de.Goals as goal

pub returns : goal.returns
returns g c = calls-are-de
