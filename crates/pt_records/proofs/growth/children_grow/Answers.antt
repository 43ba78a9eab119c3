use Rattle.pt_records.proofs.GrowthLaws.{children-grow}
use Rattle.pt_records.proofs.growth.children_grow.Goals as goal

pub returns : goal.returns
returns g c = children-grow
