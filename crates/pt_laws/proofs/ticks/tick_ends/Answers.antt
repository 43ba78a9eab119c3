use Rattle.pt_laws.proofs.TickRunLaws.{tick-ends}
use Rattle.pt_laws.proofs.ticks.tick_ends.Goals as goal

pub returns : goal.returns
returns g c = tick-ends
