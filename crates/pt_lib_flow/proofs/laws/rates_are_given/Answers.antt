use Rattle.pt_lib_flow.proofs.Giving.{rates-given}
use Rattle.pt_lib_flow.proofs.laws.rates_are_given.Goals as goal

pub returns : goal.returns
returns c = rates-given
