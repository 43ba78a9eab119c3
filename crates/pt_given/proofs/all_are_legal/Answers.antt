use Rattle.pt_given.proofs.GivenRuns.{all-are-legal}
use Rattle.pt_given.proofs.all_are_legal.Goals as goal

pub returns : goal.returns
returns g c = all-are-legal
