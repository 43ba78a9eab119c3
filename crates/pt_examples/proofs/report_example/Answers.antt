use Rattle.pt_examples.proofs.ReportExample.{report_example}
use Rattle.pt_examples.proofs.report_example.Goals as goal

pub returns : goal.returns
returns c = report_example
