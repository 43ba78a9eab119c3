use Rattle.pt_typed.proofs.ActorLaws.{rows-type}
use Rattle.pt_typed.proofs.laws.rows_keep_types.Goals as goal

pub returns : goal.returns
returns c = rows-type
