use Rattle.pt_laws.proofs.MeetingRunLaws.{rv-ends}
use Rattle.pt_laws.proofs.meetings.rv_ends.Goals as goal

pub returns : goal.returns
returns g c = rv-ends
