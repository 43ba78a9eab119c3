use Rattle.pt_laws.proofs.TickNodeLaws.{sr-sticks}
use Rattle.pt_laws.proofs.ticks.sr_sticks.Goals as goal

pub returns : goal.returns
returns g c = sr-sticks
