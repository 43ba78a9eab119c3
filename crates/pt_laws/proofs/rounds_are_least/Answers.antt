use Rattle.pt_laws.proofs.LeastLaws.{rounds-least}
use Rattle.pt_laws.proofs.rounds_are_least.Goals as goal

pub returns : goal.returns
returns g c = rounds-least
