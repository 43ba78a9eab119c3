use Rattle.pt_laws.proofs.WholeSteps.{whole-at}
use Rattle.pt_laws.proofs.closed.firings_are_whole.Goals as goal

pub returns : goal.returns
returns g c = whole-at
