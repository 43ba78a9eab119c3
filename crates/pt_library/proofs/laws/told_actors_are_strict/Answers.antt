use Rattle.pt_library.proofs.StrictLaws.{told-strict}
use Rattle.pt_library.proofs.laws.told_actors_are_strict.Goals as goal

pub returns : goal.returns
returns c = told-strict
