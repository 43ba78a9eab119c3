use Rattle.pt_laws.proofs.OrderOfMeetings.{underway-end}
use Rattle.pt_laws.proofs.order_ends.Goals as goal

pub returns : goal.returns
returns g c = underway-end
