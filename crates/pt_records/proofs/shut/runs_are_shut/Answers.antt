use Rattle.pt_records.proofs.RunShutLaws.{runs-are-shut}
use Rattle.pt_records.proofs.shut.runs_are_shut.Goals as goal

pub returns : goal.returns
returns g c = runs-are-shut
