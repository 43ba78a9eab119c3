use Rattle.pt_startable.proofs.Joined.{library-actors-start}
use Rattle.pt_startable.proofs.laws.library_actors_start.Goals as goal

pub returns : goal.returns
returns c = library-actors-start
