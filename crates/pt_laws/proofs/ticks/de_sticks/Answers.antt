use Rattle.pt_laws.proofs.TickNodeLaws.{de-sticks}
use Rattle.pt_laws.proofs.ticks.de_sticks.Goals as goal

pub returns : goal.returns
returns g c = de-sticks
