use Rattle.pt_laws.proofs.TickNodeLaws.{sr-turns}
use Rattle.pt_laws.proofs.ticks.sr_turns.Goals as goal

pub returns : goal.returns
returns g c = sr-turns
