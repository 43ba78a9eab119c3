use Rattle.pt_buildable.proofs.Joined.{directors-of-composites}
use Rattle.pt_buildable.proofs.laws.directors_are_of_composites.Goals as goal

pub returns : goal.returns
returns c = directors-of-composites
