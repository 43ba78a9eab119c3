use Rattle.pt_laws.proofs.TickNodeLaws.{de-is-prefix}
use Rattle.pt_laws.proofs.ticks.de_is_prefix.Goals as goal

pub returns : goal.returns
returns g c = de-is-prefix
