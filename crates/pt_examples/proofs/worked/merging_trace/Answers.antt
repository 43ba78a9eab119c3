use Rattle.pt_examples.proofs.RendezvousExamples.{rendezvous_examples}
use Rattle.pt_examples.proofs.worked.merging_trace.Goals as goal

pub returns : goal.returns
returns c = rendezvous_examples.merges_otherwise
