use Rattle.pt_examples.proofs.UnfedExamples.{unfed_examples}
use Rattle.pt_examples.proofs.unfed_examples.Goals as goal

pub returns : goal.returns
returns c = unfed_examples
