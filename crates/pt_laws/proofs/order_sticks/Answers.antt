use Rattle.pt_laws.proofs.OrderOfMeetings.{underway-stuck}
use Rattle.pt_laws.proofs.order_sticks.Goals as goal

pub returns : goal.returns
returns g c = underway-stuck
