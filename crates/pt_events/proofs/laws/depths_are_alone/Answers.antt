use Rattle.pt_events.proofs.DepthLaws.{depths-alone}
use Rattle.pt_events.proofs.laws.depths_are_alone.Goals as goal

pub returns : goal.returns
returns c = λ n edges a b between h k. depths-alone n edges between a b h k
