use Rattle.pt_generated.proofs.Sayable.{generated_is_sayable}
use Rattle.pt_generated.proofs.document.generated_jobs_are_sayable.Goals as goal

pub returns : goal.returns
returns c = generated_is_sayable
