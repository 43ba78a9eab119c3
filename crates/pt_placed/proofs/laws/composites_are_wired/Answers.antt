use Rattle.pt_placed.proofs.Trees.{composites-wired}
use Rattle.pt_placed.proofs.laws.composites_are_wired.Goals as goal

pub returns : goal.returns
returns c = composites-wired
