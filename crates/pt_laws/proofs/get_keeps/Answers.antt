use Rattle.pt_laws.proofs.PlaceLaws.{get-keeps}
use Rattle.pt_laws.proofs.get_keeps.Goals as goal

pub returns : goal.returns
returns g c = get-keeps
