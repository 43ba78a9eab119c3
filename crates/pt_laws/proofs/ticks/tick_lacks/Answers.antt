use Rattle.pt_laws.proofs.TickRunLaws.{tick-lacks}
use Rattle.pt_laws.proofs.ticks.tick_lacks.Goals as goal

pub returns : goal.returns
returns g c = tick-lacks
