use Rattle.pt_examples.proofs.JamExample.{jam_example}
use Rattle.pt_examples.proofs.worked.full_channel.Goals as goal

pub returns : goal.returns
returns c = jam_example
