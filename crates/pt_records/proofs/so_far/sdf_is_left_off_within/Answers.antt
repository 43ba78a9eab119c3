use Rattle.pt_records.proofs.SoFarLaws.{sdf-is-left-off-within}
use Rattle.pt_records.proofs.so_far.sdf_is_left_off_within.Goals as goal

pub returns : goal.returns
returns g c = sdf-is-left-off-within
