use Rattle.pt_sr.proofs.SoFarLaws.{sr-gives-two}
use Rattle.pt_sr.proofs.so_far.sr_gives_two.Goals as goal

pub returns : goal.returns
returns g c = sr-gives-two
