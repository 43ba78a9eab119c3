use Rattle.pt_given.proofs.GivenRuns.{meetings-are-given}
use Rattle.pt_given.proofs.meetings_are_given.Goals as goal

pub returns : goal.returns
returns g c = meetings-are-given
