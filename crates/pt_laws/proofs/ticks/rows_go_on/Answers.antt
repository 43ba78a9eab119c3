use Rattle.pt_laws.proofs.TickNodeLaws.{rows-go-on}
use Rattle.pt_laws.proofs.ticks.rows_go_on.Goals as goal

pub returns : goal.returns
returns g c = rows-go-on
