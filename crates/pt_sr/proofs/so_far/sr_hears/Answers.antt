use Rattle.pt_sr.proofs.SoFarLaws.{sr-hears}
use Rattle.pt_sr.proofs.so_far.sr_hears.Goals as goal

pub returns : goal.returns
returns g c = sr-hears
