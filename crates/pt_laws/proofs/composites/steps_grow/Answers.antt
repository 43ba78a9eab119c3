use Rattle.pt_laws.proofs.CompositeLaws.{steps-grow}
use Rattle.pt_laws.proofs.composites.steps_grow.Goals as goal

pub returns : goal.returns
returns g c = steps-grow
