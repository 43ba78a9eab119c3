use Rattle.pt_records.proofs.CountLaws.{numbers-go-on}
use Rattle.pt_records.proofs.counts.numbers_go_on.Goals as goal

pub returns : goal.returns
returns g c = numbers-go-on
