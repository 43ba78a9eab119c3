use Rattle.pt_laws.proofs.OrderOfMeetings.{underway-start}
use Rattle.pt_laws.proofs.order_begins.Goals as goal

pub returns : goal.returns
returns g c = underway-start
