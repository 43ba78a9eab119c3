use Rattle.pt_library.proofs.AnyLaws.{keeps-any}
use Rattle.pt_library.proofs.laws.any_needs_stay.Goals as goal

pub returns : goal.returns
returns c = keeps-any
