use Rattle.pt_laws.proofs.MeetingIndex.{next-is}
use Rattle.pt_laws.proofs.meetings.next_is.Goals as goal

pub returns : goal.returns
returns g c = next-is
