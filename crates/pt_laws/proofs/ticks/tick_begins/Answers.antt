use Rattle.pt_laws.proofs.TickRunLaws.{tick-begins}
use Rattle.pt_laws.proofs.ticks.tick_begins.Goals as goal

pub returns : goal.returns
returns g c = tick-begins
