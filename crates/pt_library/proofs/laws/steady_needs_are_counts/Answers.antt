use Rattle.pt_library.proofs.RateLaws.{started-needs}
use Rattle.pt_library.proofs.laws.steady_needs_are_counts.Goals as goal

pub returns : goal.returns
returns c = started-needs
