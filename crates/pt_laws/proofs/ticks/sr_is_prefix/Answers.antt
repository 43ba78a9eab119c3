use Rattle.pt_laws.proofs.TickNodeLaws.{sr-is-prefix}
use Rattle.pt_laws.proofs.ticks.sr_is_prefix.Goals as goal

pub returns : goal.returns
returns g c = sr-is-prefix
