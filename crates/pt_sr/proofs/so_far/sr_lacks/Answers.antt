use Rattle.pt_sr.proofs.SoFarLaws.{sr-lacks}
use Rattle.pt_sr.proofs.so_far.sr_lacks.Goals as goal

pub returns : goal.returns
returns g c = sr-lacks
