use Rattle.pt_laws.proofs.RunLaws.{fires-with}
use Rattle.pt_laws.proofs.logs.firings_have_records.Goals as goal

pub returns : goal.returns
returns g c = fires-with
