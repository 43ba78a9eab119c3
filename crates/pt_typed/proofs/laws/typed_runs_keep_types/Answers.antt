use Rattle.pt_typed.proofs.TypedRunLaws.{runs-keep}
use Rattle.pt_typed.proofs.laws.typed_runs_keep_types.Goals as goal

pub returns : goal.returns
returns c = runs-keep
