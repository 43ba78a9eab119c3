use Rattle.pt_examples.proofs.ReportExample.{unclosed_example}
use Rattle.pt_examples.proofs.unclosed_example.Goals as goal

pub returns : goal.returns
returns c = unclosed_example
