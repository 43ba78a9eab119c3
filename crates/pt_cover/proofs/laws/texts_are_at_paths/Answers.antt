use Rattle.pt_cover.proofs.Paths.{covers}
use Rattle.pt_cover.proofs.laws.texts_are_at_paths.Goals as goal

pub returns : goal.returns
returns c = covers
