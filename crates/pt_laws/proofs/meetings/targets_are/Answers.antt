use Rattle.pt_laws.proofs.MeetingIndex.{targets-are}
use Rattle.pt_laws.proofs.meetings.targets_are.Goals as goal

pub returns : goal.returns
returns c = targets-are
