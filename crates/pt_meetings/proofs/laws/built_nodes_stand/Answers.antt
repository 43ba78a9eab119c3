use Rattle.pt_meetings.proofs.Building.{built-nodes}
use Rattle.pt_meetings.proofs.laws.built_nodes_stand.Goals as goal

pub returns : goal.returns
returns c = built-nodes
