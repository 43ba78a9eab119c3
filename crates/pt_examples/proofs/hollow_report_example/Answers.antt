use Rattle.pt_examples.proofs.WrongReportsExamples.{hollow_example}
use Rattle.pt_examples.proofs.hollow_report_example.Goals as goal

pub returns : goal.returns
returns c = hollow_example
