use Rattle.pt_laws.proofs.PlaceLaws.{put-keeps}
use Rattle.pt_laws.proofs.put_keeps.Goals as goal

pub returns : goal.returns
returns g c = put-keeps
