use Rattle.pt_buildable.proofs.Joined.{nets-ordered}
use Rattle.pt_buildable.proofs.laws.directed_nets_are_in_order.Goals as goal

pub returns : goal.returns
returns c = nets-ordered
