use Rattle.pt_examples.proofs.NestingExamples.{nesting_examples}
use Rattle.pt_examples.proofs.nesting_examples.Goals as goal

pub returns : goal.returns
returns c = nesting_examples
