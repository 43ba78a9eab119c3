use Rattle.pt_sr.proofs.SoFarLaws.{sr-is-done}
use Rattle.pt_sr.proofs.so_far.sr_is_done.Goals as goal

pub returns : goal.returns
returns g c = sr-is-done
