use Rattle.pt_lib_flow.proofs.Bounds.{started-needs}
use Rattle.pt_lib_flow.proofs.laws.steady_needs_are_counts.Goals as goal

pub returns : goal.returns
returns c = started-needs
