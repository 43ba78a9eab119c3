use Rattle.pt_placed.proofs.Actors.{actors-placed}
use Rattle.pt_placed.proofs.laws.actors_are_placed.Goals as goal

pub returns : goal.returns
returns c = actors-placed
