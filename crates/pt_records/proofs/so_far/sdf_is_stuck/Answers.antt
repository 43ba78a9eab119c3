use Rattle.pt_records.proofs.SoFarLaws.{sdf-is-stuck}
use Rattle.pt_records.proofs.so_far.sdf_is_stuck.Goals as goal

pub returns : goal.returns
returns g c = sdf-is-stuck
