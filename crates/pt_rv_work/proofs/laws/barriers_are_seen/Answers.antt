use Rattle.pt_rv_work.proofs.SeenLaws.{barriers-are-seen}
use Rattle.pt_rv_work.proofs.laws.barriers_are_seen.Goals as goal

pub returns : goal.returns
returns g c = barriers-are-seen
