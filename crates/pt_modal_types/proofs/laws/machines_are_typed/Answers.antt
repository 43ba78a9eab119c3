use Rattle.pt_modal_types.proofs.MachineLaws.{machines-typed}
use Rattle.pt_modal_types.proofs.laws.machines_are_typed.Goals as goal

pub returns : goal.returns
returns c = machines-typed
