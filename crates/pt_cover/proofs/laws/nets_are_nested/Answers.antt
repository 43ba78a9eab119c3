use Rattle.pt_cover.proofs.Nesting.{net-nested}
use Rattle.pt_cover.proofs.laws.nets_are_nested.Goals as goal

pub returns : goal.returns
returns c = net-nested
