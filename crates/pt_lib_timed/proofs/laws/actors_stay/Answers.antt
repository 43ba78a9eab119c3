use Rattle.pt_lib_timed.proofs.Staying.{stay}
use Rattle.pt_lib_timed.proofs.laws.actors_stay.Goals as goal

pub returns : goal.returns
returns c = stay
