use Rattle.pt_laws.proofs.MeetingRunLaws.{rv-is-prefix}
use Rattle.pt_laws.proofs.meetings.rv_is_prefix.Goals as goal

pub returns : goal.returns
returns g c = rv-is-prefix
