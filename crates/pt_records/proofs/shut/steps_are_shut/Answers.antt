use Rattle.pt_records.proofs.ShutSteps.{steps-are-shut}
use Rattle.pt_records.proofs.shut.steps_are_shut.Goals as goal

pub returns : goal.returns
returns g c = steps-are-shut
