use Rattle.pt_meeting_lines.proofs.ExampleLaws.{line-examples}
use Rattle.pt_meeting_lines.proofs.examples.lines_by_example.Goals as goal

pub returns : goal.returns
returns c = line-examples
