use Rattle.pt_de_due.proofs.TurnLaws.{due-opened, last-opened}
use Rattle.pt_de_due.proofs.laws.wakes_make_due.Goals as goal

pub returns : goal.returns
returns g c = λ s w tag. (due-opened s w tag, last-opened s w tag)
