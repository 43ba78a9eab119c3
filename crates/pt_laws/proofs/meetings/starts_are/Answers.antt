use Rattle.pt_laws.proofs.MeetingIndex.{starts-are}
use Rattle.pt_laws.proofs.meetings.starts_are.Goals as goal

pub returns : goal.returns
returns g c = starts-are
