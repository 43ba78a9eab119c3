use Rattle.pt_laws.proofs.TickNodeLaws.{sr-lacks}
use Rattle.pt_laws.proofs.ticks.sr_lacks.Goals as goal

pub returns : goal.returns
returns g c = sr-lacks
