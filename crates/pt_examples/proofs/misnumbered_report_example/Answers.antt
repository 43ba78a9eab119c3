use Rattle.pt_examples.proofs.WrongReportsExamples.{misnumbered_example}
use Rattle.pt_examples.proofs.misnumbered_report_example.Goals as goal

pub returns : goal.returns
returns c = misnumbered_example
