use Rattle.pt_examples.proofs.ClosedLogsExamples.{closed_logs_examples}
use Rattle.pt_examples.proofs.closed_logs_examples.Goals as goal

pub returns : goal.returns
returns c = closed_logs_examples
