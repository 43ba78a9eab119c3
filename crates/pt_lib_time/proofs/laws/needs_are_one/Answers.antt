use Rattle.pt_lib_time.proofs.Giving.{needs-one, needs-any}
use Rattle.pt_lib_time.proofs.laws.needs_are_one.Goals as goal

pub returns : goal.returns
returns c = λ a. (needs-one a, needs-any a)
