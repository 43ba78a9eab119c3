use Rattle.pt_laws.proofs.MeetingIndex.{fires-are}
use Rattle.pt_laws.proofs.meetings.fires_are.Goals as goal

pub returns : goal.returns
returns g c = fires-are
