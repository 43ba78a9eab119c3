use Rattle.pt_modal_laws.proofs.ComesLaws.{always-comes}
use Rattle.pt_modal_laws.proofs.laws.something_comes.Goals as goal

pub returns : goal.returns
returns g c = λ reads. always-comes reads
