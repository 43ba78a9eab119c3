use Rattle.pt_events.proofs.DepthLaws.{no-loop}
use Rattle.pt_events.proofs.laws.depths_exclude_loops.Goals as goal

pub returns : goal.returns
returns c = λ n edges depths children between h l. no-loop n edges between depths children h l
