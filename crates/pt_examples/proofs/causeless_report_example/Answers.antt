use Rattle.pt_examples.proofs.WrongReportsExamples.{causeless_example}
use Rattle.pt_examples.proofs.causeless_report_example.Goals as goal

pub returns : goal.returns
returns c = causeless_example
