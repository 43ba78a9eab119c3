use Rattle.pt_examples.proofs.WrongReportsExamples.{understated_example}
use Rattle.pt_examples.proofs.understated_report_example.Goals as goal

pub returns : goal.returns
returns c = understated_example
