use Rattle.pt_modal_laws.proofs.ReactionLaws.{calls-are-modal}
use Rattle.pt_modal_laws.proofs.laws.calls_are_modal.Goals as goal

pub returns : goal.returns
returns g c = λ reads. calls-are-modal reads
