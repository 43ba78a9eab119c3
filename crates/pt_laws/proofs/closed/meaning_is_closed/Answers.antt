use Rattle.pt_laws.proofs.ClosedMeaning.{meaning-is-closed}
use Rattle.pt_laws.proofs.closed.meaning_is_closed.Goals as goal

pub returns : goal.returns
returns g c = meaning-is-closed
