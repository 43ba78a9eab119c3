use Rattle.pt_typed.proofs.JobLaws.{nets-keep-types}
use Rattle.pt_typed.proofs.laws.nets_keep_types.Goals as goal

pub returns : goal.returns
returns c = nets-keep-types
