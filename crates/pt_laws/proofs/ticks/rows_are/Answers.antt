use Rattle.pt_laws.proofs.TickNodeLaws.{rows-are}
use Rattle.pt_laws.proofs.ticks.rows_are.Goals as goal

pub returns : goal.returns
returns g c = rows-are
