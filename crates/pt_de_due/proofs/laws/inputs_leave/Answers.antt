use Rattle.pt_de_due.proofs.EmptiedLaws.{emptied-more, emptied-next, emptied-others, emptied-own, emptied-itself}
use Rattle.pt_de_due.proofs.laws.inputs_leave.Goals as goal

pub returns : goal.returns
returns g c = record {
  one_more = λ o k X. emptied-more o k X;
  next = λ o k X. emptied-next o k X;
  others = λ ns i j X z. emptied-others ns i j X z;
  own = λ ns i X. emptied-own ns i X;
  itself = λ ns i X. emptied-itself ns i X;
}
