use Rattle.pt_examples.proofs.ModalExamples.{modal_examples}
use Rattle.pt_examples.proofs.worked.lagging_trace.Goals as goal

pub returns : goal.returns
returns c = modal_examples.lags_and_wakes
