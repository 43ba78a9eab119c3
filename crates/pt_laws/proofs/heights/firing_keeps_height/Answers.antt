use Rattle.pt_laws.proofs.HeightLaws.{firing-keeps}
use Rattle.pt_laws.proofs.heights.firing_keeps_height.Goals as goal

pub returns : goal.returns
returns g c = firing-keeps
