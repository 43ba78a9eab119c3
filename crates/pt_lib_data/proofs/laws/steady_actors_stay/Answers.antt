use Rattle.pt_lib_data.proofs.Steadiness.{steady-stay}
use Rattle.pt_lib_data.proofs.laws.steady_actors_stay.Goals as goal

pub returns : goal.returns
returns c = steady-stay
