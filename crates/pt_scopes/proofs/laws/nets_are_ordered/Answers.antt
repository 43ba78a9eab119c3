use Rattle.pt_scopes.proofs.Document.{net-ordered}
use Rattle.pt_scopes.proofs.laws.nets_are_ordered.Goals as goal

pub returns : goal.returns
returns c = net-ordered
