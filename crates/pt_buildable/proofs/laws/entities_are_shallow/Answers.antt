use Rattle.pt_buildable.proofs.Joined.{entities-shallow}
use Rattle.pt_buildable.proofs.laws.entities_are_shallow.Goals as goal

pub returns : goal.returns
returns c = entities-shallow
