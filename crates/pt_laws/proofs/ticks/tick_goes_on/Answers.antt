use Rattle.pt_laws.proofs.TickRunLaws.{tick-goes-on}
use Rattle.pt_laws.proofs.ticks.tick_goes_on.Goals as goal

pub returns : goal.returns
returns g c = tick-goes-on
