use Rattle.pt_rv_work.proofs.SeenLaws.{meetings-are-seen}
use Rattle.pt_rv_work.proofs.laws.meetings_are_seen.Goals as goal

pub returns : goal.returns
returns g c = meetings-are-seen
