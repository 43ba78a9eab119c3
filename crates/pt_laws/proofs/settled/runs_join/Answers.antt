use Rattle.pt_laws.proofs.JoinLaws.{runs-join}
use Rattle.pt_laws.proofs.settled.runs_join.Goals as goal

pub returns : goal.returns
returns g c = runs-join
