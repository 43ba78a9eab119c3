use Rattle.pt_lib_timed.proofs.Staying.{needs-one}
use Rattle.pt_lib_timed.proofs.laws.needs_are_one.Goals as goal

pub returns : goal.returns
returns c = needs-one
