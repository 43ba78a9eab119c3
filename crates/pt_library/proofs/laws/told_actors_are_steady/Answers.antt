use Rattle.pt_library.proofs.SteadyLaws.{told-steady}
use Rattle.pt_library.proofs.laws.told_actors_are_steady.Goals as goal

pub returns : goal.returns
returns c = told-steady
