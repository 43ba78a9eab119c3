use Rattle.pt_examples.proofs.UnfedExamples.{unfed_examples}
use Rattle.pt_examples.proofs.worked.waiting_trace.Goals as goal

pub returns : goal.returns
returns c = unfed_examples.waits_for_both
