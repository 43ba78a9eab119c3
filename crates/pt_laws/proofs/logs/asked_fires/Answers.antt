use Rattle.pt_laws.proofs.LogLaws.{asked-fires}
use Rattle.pt_laws.proofs.logs.asked_fires.Goals as goal

pub returns : goal.returns
returns g c = asked-fires
