use Rattle.pt_lib_flow.proofs.Steadiness.{steady-stay}
use Rattle.pt_lib_flow.proofs.laws.steady_actors_stay.Goals as goal

pub returns : goal.returns
returns c = steady-stay
