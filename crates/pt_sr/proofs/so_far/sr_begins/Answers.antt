use Rattle.pt_sr.proofs.SoFarLaws.{sr-begins}
use Rattle.pt_sr.proofs.so_far.sr_begins.Goals as goal

pub returns : goal.returns
returns g c = sr-begins
