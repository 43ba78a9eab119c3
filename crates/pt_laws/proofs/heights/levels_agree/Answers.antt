use Rattle.pt_laws.proofs.HeightLaws.{levels-agree}
use Rattle.pt_laws.proofs.heights.levels_agree.Goals as goal

pub returns : goal.returns
returns g c = levels-agree
