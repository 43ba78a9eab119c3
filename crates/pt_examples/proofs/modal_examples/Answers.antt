use Rattle.pt_examples.proofs.ModalExamples.{modal_examples}
use Rattle.pt_examples.proofs.modal_examples.Goals as goal

pub returns : goal.returns
returns c = modal_examples
