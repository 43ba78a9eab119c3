use Rattle.pt_lib_data.proofs.Bounds.{needs-bounded}
use Rattle.pt_lib_data.proofs.laws.needs_are_bounded.Goals as goal

pub returns : goal.returns
returns c = needs-bounded
