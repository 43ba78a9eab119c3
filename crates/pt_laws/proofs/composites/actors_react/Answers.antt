use Rattle.pt_laws.proofs.CompositeLaws.{actors-react}
use Rattle.pt_laws.proofs.composites.actors_react.Goals as goal

pub returns : goal.returns
returns g c = actors-react
