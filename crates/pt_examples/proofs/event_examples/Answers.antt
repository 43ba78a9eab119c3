use Rattle.pt_examples.proofs.EventExamples.{event_examples}
use Rattle.pt_examples.proofs.event_examples.Goals as goal

pub returns : goal.returns
returns c = event_examples
