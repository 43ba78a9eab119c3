use Rattle.pt_laws.proofs.LogLaws.{asked-is-prefix}
use Rattle.pt_laws.proofs.logs.asked_is_prefix.Goals as goal

pub returns : goal.returns
returns g c = asked-is-prefix
