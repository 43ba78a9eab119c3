use Rattle.pt_examples.proofs.EventExamples.{event_examples}
use Rattle.pt_examples.proofs.worked.clocks_trace.Goals as goal

pub returns : goal.returns
returns c = event_examples.clocks_meet
