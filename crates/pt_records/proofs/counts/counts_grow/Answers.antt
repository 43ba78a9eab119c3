use Rattle.pt_records.proofs.CountLaws.{counts-grow}
use Rattle.pt_records.proofs.counts.counts_grow.Goals as goal

pub returns : goal.returns
returns g c = counts-grow
