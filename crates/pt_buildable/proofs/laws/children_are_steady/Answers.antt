use Rattle.pt_buildable.proofs.Joined.{children-steady}
use Rattle.pt_buildable.proofs.laws.children_are_steady.Goals as goal

pub returns : goal.returns
returns c = children-steady
