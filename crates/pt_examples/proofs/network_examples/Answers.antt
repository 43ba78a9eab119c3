use Rattle.pt_examples.proofs.NetworkExamples.{network_examples}
use Rattle.pt_examples.proofs.network_examples.Goals as goal

pub returns : goal.returns
returns c = network_examples
