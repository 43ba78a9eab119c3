use Rattle.pt_sr.proofs.SoFarLaws.{sr-is-stuck}
use Rattle.pt_sr.proofs.so_far.sr_is_stuck.Goals as goal

pub returns : goal.returns
returns g c = sr-is-stuck
