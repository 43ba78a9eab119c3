use Rattle.pt_laws.proofs.FuelLaw.{more_fuel}
use Rattle.pt_laws.proofs.more_fuel.Goals as goal

pub returns : goal.returns
returns g c = more_fuel
