use Rattle.pt_reporting.proofs.Gathering.{numbers_stay}
use Rattle.pt_reporting.proofs.reporting.numbers_stay.Goals as goal

pub returns : goal.returns
returns c = numbers_stay
