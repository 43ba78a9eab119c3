use Rattle.pt_laws.proofs.LogLaws.{counts-add}
use Rattle.pt_laws.proofs.logs.counts_add.Goals as goal

pub returns : goal.returns
returns g c = counts-add
