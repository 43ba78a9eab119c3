use Rattle.pt_records.proofs.SoFarLaws.{sdf-is-left-off}
use Rattle.pt_records.proofs.so_far.sdf_is_left_off.Goals as goal

pub returns : goal.returns
returns g c = sdf-is-left-off
