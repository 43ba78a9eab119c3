use Rattle.pt_laws.proofs.LaterLaws.{later-goes-on}
use Rattle.pt_laws.proofs.closed.later_goes_on.Goals as goal

pub returns : goal.returns
returns g c = later-goes-on
