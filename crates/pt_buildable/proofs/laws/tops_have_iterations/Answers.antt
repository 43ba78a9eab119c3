use Rattle.pt_buildable.proofs.Joined.{tops-iterate}
use Rattle.pt_buildable.proofs.laws.tops_have_iterations.Goals as goal

pub returns : goal.returns
returns c = tops-iterate
