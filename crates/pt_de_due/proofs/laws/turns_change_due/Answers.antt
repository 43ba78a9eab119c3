use Rattle.pt_de_laws.specs.State.{Answered}
use Rattle.pt_de_due.proofs.TurnLaws.{due-asked, last-asked, due-turned, last-answered, due-wake}
use Rattle.pt_de_due.proofs.laws.turns_change_due.Goals as goal

pub returns : goal.returns
returns g c = record {
  due_asked = λ s w i d h. due-asked s w i d h;
  last_asked = λ s w i d h. last-asked s w i d h;
  due_answered = λ s w i d h. due-turned s w i Answered (λ e. absurd (cc)) d h;
  last_answered = λ s w i d h. last-answered s w i d h;
  due_woken = λ s w i wake turned d h. due-wake s w i wake turned d h;
}
