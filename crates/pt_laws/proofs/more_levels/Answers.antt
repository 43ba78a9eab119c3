use Rattle.pt_laws.proofs.FuelLaw.{step_at-grows}
use Rattle.pt_laws.proofs.more_levels.Goals as goal

pub returns : goal.returns
returns g c = λ rows law m k k' d d' h e node tag inputs. step_at-grows rows law k k' h d d' e m tag node inputs
