use Rattle.pt_records.proofs.SoFarLaws.{so-far-begins}
use Rattle.pt_records.proofs.so_far.so_far_begins.Goals as goal

pub returns : goal.returns
returns g c = so-far-begins
