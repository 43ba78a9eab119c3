use Rattle.pt_cover.proofs.Distinct.{paths-apart}
use Rattle.pt_cover.proofs.laws.paths_are_distinct.Goals as goal

pub returns : goal.returns
returns c = paths-apart
