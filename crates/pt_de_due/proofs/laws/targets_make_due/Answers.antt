use Rattle.pt_de_due.proofs.PutLaws.{due-fed, last-fed}
use Rattle.pt_de_due.proofs.laws.targets_make_due.Goals as goal

pub returns : goal.returns
returns g c = record { due = λ s w given ts k l d h. due-fed s w given ts k l d h; last = λ s w given ts k l d h. last-fed s w given ts k l d h }
