use Rattle.pt_modal_types.proofs.MachineLaws.{machines-keep}
use Rattle.pt_modal_types.proofs.laws.machines_keep_types.Goals as goal

pub returns : goal.returns
returns c = machines-keep
