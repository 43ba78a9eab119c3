use Rattle.pt_records.proofs.GrowthLaws.{nodes-grow}
use Rattle.pt_records.proofs.growth.nodes_grow.Goals as goal

pub returns : goal.returns
returns g c = nodes-grow
