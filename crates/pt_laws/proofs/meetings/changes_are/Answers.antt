use Rattle.pt_laws.proofs.MeetingIndex.{changes-are}
use Rattle.pt_laws.proofs.meetings.changes_are.Goals as goal

pub returns : goal.returns
returns g c = changes-are
