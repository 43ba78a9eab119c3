use Rattle.pt_laws.proofs.ClosedMeaning.{closed-at-paths}
use Rattle.pt_laws.proofs.closed.closed_at_paths.Goals as goal

pub returns : goal.returns
returns g c = closed-at-paths
