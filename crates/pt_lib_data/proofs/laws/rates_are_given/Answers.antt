use Rattle.pt_lib_data.proofs.Giving.{rates-given}
use Rattle.pt_lib_data.proofs.laws.rates_are_given.Goals as goal

pub returns : goal.returns
returns c = rates-given
