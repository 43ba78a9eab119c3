use Rattle.pt_sr.proofs.SoFarLaws.{sr-is-left-off}
use Rattle.pt_sr.proofs.so_far.sr_is_left_off.Goals as goal

pub returns : goal.returns
returns g c = sr-is-left-off
