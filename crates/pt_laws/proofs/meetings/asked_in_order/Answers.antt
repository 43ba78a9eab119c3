use Rattle.pt_laws.proofs.MeetingRunLaws.{asked-in-order}
use Rattle.pt_laws.proofs.meetings.asked_in_order.Goals as goal

pub returns : goal.returns
returns g c = asked-in-order
