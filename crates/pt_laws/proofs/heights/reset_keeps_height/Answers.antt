use Rattle.pt_laws.proofs.HeightLaws.{reset-keeps}
use Rattle.pt_laws.proofs.heights.reset_keeps_height.Goals as goal

pub returns : goal.returns
returns g c = reset-keeps
