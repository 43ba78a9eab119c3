use Rattle.pt_examples.proofs.NetworkExamples.{network_examples}
use Rattle.pt_examples.proofs.worked.repeated_sum_trace.Goals as goal

pub returns : goal.returns
returns c = network_examples.sums
