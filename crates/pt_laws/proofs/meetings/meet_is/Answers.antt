use Rattle.pt_laws.proofs.MeetingIndex.{meet-is}
use Rattle.pt_laws.proofs.meetings.meet_is.Goals as goal

pub returns : goal.returns
returns g c = meet-is
