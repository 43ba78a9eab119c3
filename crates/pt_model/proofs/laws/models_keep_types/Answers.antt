use Rattle.pt_model.proofs.TypedLaws.{models-keep-types}
use Rattle.pt_model.proofs.laws.models_keep_types.Goals as goal

pub returns : goal.returns
returns c = models-keep-types
