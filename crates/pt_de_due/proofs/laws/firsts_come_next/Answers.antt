use Rattle.pt_de_due.proofs.FirstLaws.{first-is-first, first-is-last, none-is-over, none-left, none-last-left}
use Rattle.pt_de_due.proofs.laws.firsts_come_next.Goals as goal

pub returns : goal.returns
returns g c = record {
  first = λ s due a i f. first-is-first s due a i f;
  last = λ s due last a b none i f. first-is-last s due last a b none i f;
  over = λ s due last a b none empty. (none-is-over s due last a b none empty, none-left s due a none, none-last-left s due last a b none empty);
}
