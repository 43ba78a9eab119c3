use Rattle.pt_examples.proofs.ModalExamples.{modal_examples}
use Rattle.pt_examples.proofs.worked.stop_and_go_trace.Goals as goal

pub returns-then-history : goal.returns-then-history
returns-then-history c = rw c.if-history.true modal_examples.with_history

pub returns-else-history : goal.returns-else-history
returns-else-history c = rw c.if-history.false modal_examples.without_history
