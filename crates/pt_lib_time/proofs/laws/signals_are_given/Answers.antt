use Rattle.pt_lib_time.proofs.Giving.{signals-given}
use Rattle.pt_lib_time.proofs.laws.signals_are_given.Goals as goal

pub returns : goal.returns
returns c = signals-given
