use Rattle.pt_records.proofs.MiddleShut.{middle-is-shut}
use Rattle.pt_records.proofs.shut.middles_are_shut.Goals as goal

pub returns : goal.returns
returns g c = middle-is-shut
