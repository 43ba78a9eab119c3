use Rattle.pt_laws.proofs.PlaceLaws.{fire-keeps}
use Rattle.pt_laws.proofs.fire_keeps.Goals as goal

pub returns : goal.returns
returns g c = fire-keeps
