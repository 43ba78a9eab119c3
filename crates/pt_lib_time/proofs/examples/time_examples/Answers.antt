use Rattle.pt_lib_time.proofs.Worked.{time_examples}
use Rattle.pt_lib_time.proofs.examples.time_examples.Goals as goal

pub returns : goal.returns
returns c = time_examples
