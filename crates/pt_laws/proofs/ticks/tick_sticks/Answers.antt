use Rattle.pt_laws.proofs.TickRunLaws.{tick-sticks}
use Rattle.pt_laws.proofs.ticks.tick_sticks.Goals as goal

pub returns : goal.returns
returns g c = tick-sticks
