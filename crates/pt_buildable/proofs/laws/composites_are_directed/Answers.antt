use Rattle.pt_buildable.proofs.Joined.{composites-directed}
use Rattle.pt_buildable.proofs.laws.composites_are_directed.Goals as goal

pub returns : goal.returns
returns c = composites-directed
