use Rattle.pt_laws.proofs.ClosedMeaning.{firings-keep-closed}
use Rattle.pt_laws.proofs.closed.firings_keep_closed.Goals as goal

pub returns : goal.returns
returns g c = firings-keep-closed
