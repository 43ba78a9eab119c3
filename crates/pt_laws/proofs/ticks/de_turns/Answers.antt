use Rattle.pt_laws.proofs.TickNodeLaws.{de-turns}
use Rattle.pt_laws.proofs.ticks.de_turns.Goals as goal

pub returns : goal.returns
returns g c = de-turns
