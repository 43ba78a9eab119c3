use Rattle.pt_placed.proofs.Composites.{composites-counted}
use Rattle.pt_placed.proofs.laws.composites_are_counted.Goals as goal

pub returns : goal.returns
returns c = composites-counted
