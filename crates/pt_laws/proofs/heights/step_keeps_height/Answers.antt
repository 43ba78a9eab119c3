use Rattle.pt_laws.proofs.HeightLaws.{step-keeps}
use Rattle.pt_laws.proofs.heights.step_keeps_height.Goals as goal

pub returns : goal.returns
returns g c = step-keeps
