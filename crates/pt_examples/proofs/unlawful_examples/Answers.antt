use Rattle.pt_examples.proofs.UnlawfulExamples.{unlawful_examples}
use Rattle.pt_examples.proofs.unlawful_examples.Goals as goal

pub returns : goal.returns
returns c = unlawful_examples
