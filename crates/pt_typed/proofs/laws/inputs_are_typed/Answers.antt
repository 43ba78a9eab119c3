use Rattle.pt_typed.proofs.InputLaws.{inputs-typed}
use Rattle.pt_typed.proofs.laws.inputs_are_typed.Goals as goal

pub returns : goal.returns
returns c = inputs-typed
