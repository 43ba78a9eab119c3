use Rattle.pt_de_due.proofs.PutLaws.{due-put, last-put}
use Rattle.pt_de_due.proofs.laws.tokens_make_due.Goals as goal

pub returns : goal.returns
returns g c = record { due = λ s w k ts d h. due-put s w k ts d h; last = λ s w k ts d h. last-put s w k ts d h }
