use Rattle.pt_laws.proofs.OrderOfMeetings.{underway-meet}
use Rattle.pt_laws.proofs.order_meets.Goals as goal

pub returns : goal.returns
returns g c = underway-meet
