use Rattle.pt_node.proofs.UnmetLaws.{every-list}
use Rattle.pt_node.proofs.unmet.nothing_meets.Goals as goal

pub returns : goal.returns
returns c = every-list
