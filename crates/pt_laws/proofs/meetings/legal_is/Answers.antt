use Rattle.pt_laws.proofs.MeetingIndex.{legal-is}
use Rattle.pt_laws.proofs.meetings.legal_is.Goals as goal

pub returns : goal.returns
returns g c = legal-is
