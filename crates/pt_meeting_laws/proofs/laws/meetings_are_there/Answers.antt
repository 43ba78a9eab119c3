use Rattle.pt_meeting_laws.proofs.Meanings.{meetings-are-there}
use Rattle.pt_meeting_laws.proofs.laws.meetings_are_there.Goals as goal

pub returns : goal.returns
returns g c = meetings-are-there
