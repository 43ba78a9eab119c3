use Rattle.pt_records.proofs.SoFarLaws.{sdf-is-done}
use Rattle.pt_records.proofs.so_far.sdf_is_done.Goals as goal

pub returns : goal.returns
returns g c = sdf-is-done
