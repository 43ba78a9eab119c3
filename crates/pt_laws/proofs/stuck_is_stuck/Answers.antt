use Rattle.pt_laws.proofs.FuelLaw.{stuck_is_stuck}
use Rattle.pt_laws.proofs.stuck_is_stuck.Goals as goal

pub returns : goal.returns
returns g c = stuck_is_stuck
