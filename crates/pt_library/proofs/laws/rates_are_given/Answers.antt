use Rattle.pt_library.proofs.RateLaws.{rates-given}
use Rattle.pt_library.proofs.laws.rates_are_given.Goals as goal

pub returns : goal.returns
returns c = rates-given
