use Rattle.pt_order.proofs.NetsInOrder.{nets-in-order}
use Rattle.pt_order.proofs.laws.nets_are_in_order.Goals as goal

pub returns : goal.returns
returns c = nets-in-order
