use Rattle.pt_records.proofs.SoFarLaws.{so-far-goes-on}
use Rattle.pt_records.proofs.so_far.so_far_goes_on.Goals as goal

pub returns : goal.returns
returns g c = so-far-goes-on
