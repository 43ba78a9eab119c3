use Rattle.pt_typed.proofs.TypedRunLaws.{steps-keep}
use Rattle.pt_typed.proofs.laws.typed_steps_keep_types.Goals as goal

pub returns : goal.returns
returns c = steps-keep
