use Rattle.pt_examples.proofs.RendezvousExamples.{rendezvous_examples}
use Rattle.pt_examples.proofs.rendezvous_examples.Goals as goal

pub returns : goal.returns
returns c = rendezvous_examples
