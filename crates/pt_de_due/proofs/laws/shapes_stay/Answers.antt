use Rattle.pt_de_due.proofs.TurnLaws.{shaped-asked}
use Rattle.pt_de_due.proofs.CallLaws.{shaped-rest, shaped-begun, shaped-told, shaped-heard}
use Rattle.pt_de_due.proofs.laws.shapes_stay.Goals as goal

pub returns : goal.returns
returns g c = record {
  rests = λ plan roles wakes w e. shaped-rest plan roles wakes w e;
  begun = λ s tag inputs w. shaped-begun s tag inputs w;
  asked = λ s i w. shaped-asked s w i;
  told = λ s i out wake w. shaped-told s i out wake w;
  heard = λ s i early w. shaped-heard s i early w;
}
