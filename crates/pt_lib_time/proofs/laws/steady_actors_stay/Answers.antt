use Rattle.pt_lib_time.proofs.Giving.{steady-stay}
use Rattle.pt_lib_time.proofs.laws.steady_actors_stay.Goals as goal

pub returns : goal.returns
returns c = steady-stay
