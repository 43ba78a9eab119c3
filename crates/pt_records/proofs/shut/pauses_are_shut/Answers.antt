use Rattle.pt_records.proofs.PauseShut.{pauses-are-shut}
use Rattle.pt_records.proofs.shut.pauses_are_shut.Goals as goal

pub returns : goal.returns
returns g c = pauses-are-shut
