use Rattle.pt_laws.proofs.CountLaws.{rounds-count}
use Rattle.pt_laws.proofs.settled.rounds_count.Goals as goal

pub returns : goal.returns
returns g c = rounds-count
