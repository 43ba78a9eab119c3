use Rattle.pt_laws.proofs.MeetingRunLaws.{rv-sticks}
use Rattle.pt_laws.proofs.meetings.rv_sticks.Goals as goal

pub returns : goal.returns
returns g c = rv-sticks
