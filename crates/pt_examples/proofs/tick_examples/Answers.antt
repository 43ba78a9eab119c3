use Rattle.pt_examples.proofs.TickExamples.{tick_examples}
use Rattle.pt_examples.proofs.tick_examples.Goals as goal

pub returns : goal.returns
returns c = tick_examples
