use Rattle.pt_placed.proofs.Trees.{composites-met}
use Rattle.pt_placed.proofs.laws.composites_are_met.Goals as goal

pub returns : goal.returns
returns c = composites-met
