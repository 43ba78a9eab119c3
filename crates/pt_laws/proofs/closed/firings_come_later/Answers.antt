use Rattle.pt_laws.proofs.LaterSteps.{later-at}
use Rattle.pt_laws.proofs.closed.firings_come_later.Goals as goal

pub returns : goal.returns
returns g c = later-at
