use Rattle.pt_laws.proofs.ModalLaw.{modal-extends}
use Rattle.pt_laws.proofs.cases_keep.Goals as goal

pub returns : goal.returns
returns g c = modal-extends
