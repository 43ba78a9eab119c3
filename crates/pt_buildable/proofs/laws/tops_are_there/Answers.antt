use Rattle.pt_buildable.proofs.Joined.{tops-there}
use Rattle.pt_buildable.proofs.laws.tops_are_there.Goals as goal

pub returns : goal.returns
returns c = tops-there
