use Rattle.pt_examples.proofs.DataflowExamples.{dataflow_examples}
use Rattle.pt_examples.proofs.dataflow_examples.Goals as goal

pub returns : goal.returns
returns c = dataflow_examples
