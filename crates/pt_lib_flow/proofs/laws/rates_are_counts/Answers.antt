use Rattle.pt_lib_flow.proofs.Bounds.{started-gives}
use Rattle.pt_lib_flow.proofs.laws.rates_are_counts.Goals as goal

pub returns : goal.returns
returns c = started-gives
