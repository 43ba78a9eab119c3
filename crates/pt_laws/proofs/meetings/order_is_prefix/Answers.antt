use Rattle.pt_laws.proofs.MeetingRunLaws.{order-is-prefix}
use Rattle.pt_laws.proofs.meetings.order_is_prefix.Goals as goal

pub returns : goal.returns
returns g c = order-is-prefix
