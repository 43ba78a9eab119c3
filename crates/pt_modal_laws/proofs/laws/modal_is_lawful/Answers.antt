use Rattle.pt_modal_laws.proofs.ActsLaws.{modal-is-lawful}
use Rattle.pt_modal_laws.proofs.laws.modal_is_lawful.Goals as goal

pub returns : goal.returns
returns g c = λ reads rows law. modal-is-lawful reads rows law
