use Rattle.pt_placed.proofs.Actors.{actors-counted}
use Rattle.pt_placed.proofs.laws.actors_are_counted.Goals as goal

pub returns : goal.returns
returns c = actors-counted
