use Rattle.pt_examples.proofs.DataflowExamples.{dataflow_examples}
use Rattle.pt_examples.proofs.worked.doubled_count.Goals as goal

pub returns : goal.returns
returns c = dataflow_examples.nine_firings
