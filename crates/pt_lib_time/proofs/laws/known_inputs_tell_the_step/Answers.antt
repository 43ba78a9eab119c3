use Rattle.pt_lib_time.proofs.RowLaws.{known-tell}
use Rattle.pt_lib_time.proofs.laws.known_inputs_tell_the_step.Goals as goal

pub returns : goal.returns
returns c = known-tell
