use Rattle.pt_examples.proofs.NestingExamples.{nesting_examples}
use Rattle.pt_examples.proofs.worked.two_lags_trace.Goals as goal

pub returns : goal.returns
returns c = nesting_examples.lags_add
