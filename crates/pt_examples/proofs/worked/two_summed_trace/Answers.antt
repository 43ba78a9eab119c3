use Rattle.pt_examples.proofs.EventExamples.{event_examples}
use Rattle.pt_examples.proofs.worked.two_summed_trace.Goals as goal

pub returns : goal.returns
returns c = event_examples.sums_in_order
