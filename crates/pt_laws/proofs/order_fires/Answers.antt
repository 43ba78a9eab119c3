use Rattle.pt_laws.proofs.OrderOfMeetings.{underway-fire}
use Rattle.pt_laws.proofs.order_fires.Goals as goal

pub returns : goal.returns
returns g c = underway-fire
