use Rattle.pt_laws.proofs.TickNodeLaws.{de-ends}
use Rattle.pt_laws.proofs.ticks.de_ends.Goals as goal

pub returns : goal.returns
returns g c = de-ends
