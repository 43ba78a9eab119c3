use Rattle.pt_laws.proofs.LogLaws.{traces-add}
use Rattle.pt_laws.proofs.logs.traces_add.Goals as goal

pub returns : goal.returns
returns g c = traces-add
