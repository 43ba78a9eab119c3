use Rattle.pt_laws.proofs.LogLaws.{sticks-with}
use Rattle.pt_laws.proofs.logs.run_sticks_with.Goals as goal

pub returns : goal.returns
returns g c = sticks-with
