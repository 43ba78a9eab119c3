use Rattle.pt_records.proofs.CountLaws.{stays-wired}
use Rattle.pt_records.proofs.counts.stays_wired.Goals as goal

pub returns : goal.returns
returns g c = stays-wired
