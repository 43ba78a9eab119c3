use Rattle.pt_laws.proofs.TickNodeLaws.{sr-ends}
use Rattle.pt_laws.proofs.ticks.sr_ends.Goals as goal

pub returns : goal.returns
returns g c = sr-ends
