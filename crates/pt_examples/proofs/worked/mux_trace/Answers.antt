use Rattle.pt_examples.proofs.TickExamples.{tick_examples}
use Rattle.pt_examples.proofs.worked.mux_trace.Goals as goal

pub returns : goal.returns
returns c = tick_examples.first_mux
