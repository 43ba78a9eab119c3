use Rattle.pt_laws.proofs.TickNodeLaws.{de-lacks}
use Rattle.pt_laws.proofs.ticks.de_lacks.Goals as goal

pub returns : goal.returns
returns g c = de-lacks
