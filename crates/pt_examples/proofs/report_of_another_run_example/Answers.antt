use Rattle.pt_examples.proofs.WrongReportsExamples.{of_another_run_example}
use Rattle.pt_examples.proofs.report_of_another_run_example.Goals as goal

pub returns : goal.returns
returns c = of_another_run_example
