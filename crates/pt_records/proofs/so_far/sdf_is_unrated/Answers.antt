use Rattle.pt_records.proofs.SoFarLaws.{sdf-is-unrated}
use Rattle.pt_records.proofs.so_far.sdf_is_unrated.Goals as goal

pub returns : goal.returns
returns g c = sdf-is-unrated
