use Rattle.pt_stretches.proofs.Stretching.{rows-go-on}
use Rattle.pt_stretches.proofs.rows.rows_go_on.Goals as goal

pub returns : goal.returns
returns c = rows-go-on
