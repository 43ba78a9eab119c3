use Rattle.pt_laws.proofs.ClosedMeaning.{levels-go-on}
use Rattle.pt_laws.proofs.closed.levels_go_on.Goals as goal

pub returns : goal.returns
returns g c = levels-go-on
