use Rattle.pt_laws.proofs.MeetingRunLaws.{rv-asked-is-prefix}
use Rattle.pt_laws.proofs.meetings.rv_asked_is_prefix.Goals as goal

pub returns : goal.returns
returns g c = rv-asked-is-prefix
