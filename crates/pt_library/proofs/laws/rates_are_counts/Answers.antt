use Rattle.pt_library.proofs.RateLaws.{started-rated}
use Rattle.pt_library.proofs.laws.rates_are_counts.Goals as goal

pub returns : goal.returns
returns c = started-rated
