use Rattle.pt_lib_timed.proofs.Worked.{timed_examples}
use Rattle.pt_lib_timed.proofs.examples.timed_examples.Goals as goal

pub returns : goal.returns
returns c = timed_examples
