use Rattle.pt_examples.proofs.JamExample.{jam_example}
use Rattle.pt_examples.proofs.jam_example.Goals as goal

pub returns : goal.returns
returns c = jam_example
