use Rattle.pt_examples.proofs.EdgeExamples.{edge_examples}
use Rattle.pt_examples.proofs.edge_examples.Goals as goal

pub returns : goal.returns
returns c = edge_examples
