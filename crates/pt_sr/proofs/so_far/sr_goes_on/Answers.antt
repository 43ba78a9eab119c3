use Rattle.pt_sr.proofs.SoFarLaws.{sr-goes-on}
use Rattle.pt_sr.proofs.so_far.sr_goes_on.Goals as goal

pub returns : goal.returns
returns g c = sr-goes-on
