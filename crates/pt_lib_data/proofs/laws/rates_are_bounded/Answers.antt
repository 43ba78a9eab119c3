use Rattle.pt_lib_data.proofs.Bounds.{rates-bounded}
use Rattle.pt_lib_data.proofs.laws.rates_are_bounded.Goals as goal

pub returns : goal.returns
returns c = rates-bounded
