use Rattle.pt_placed.proofs.Over.{not-over}
use Rattle.pt_placed.proofs.laws.actors_are_not_over.Goals as goal

pub returns : goal.returns
returns c = not-over
