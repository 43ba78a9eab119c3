use Rattle.pt_laws.proofs.HeightLaws.{any-level}
use Rattle.pt_laws.proofs.heights.step_is_at_any_level.Goals as goal

pub returns : goal.returns
returns g c = any-level
