use Rattle.pt_laws.proofs.TickRunLaws.{tick-is-prefix}
use Rattle.pt_laws.proofs.ticks.tick_is_prefix.Goals as goal

pub returns : goal.returns
returns g c = tick-is-prefix
