use Rattle.pt_de_due.proofs.CountLaws.{all-wait, one-waits-less, as-many-wait, rows-asked, rows-others, rows-fired}
use Rattle.pt_de_due.proofs.laws.turns_are_counted.Goals as goal

pub returns : goal.returns
returns g c = record {
  all_wait = λ ns. all-wait ns;
  one_less = λ ts i t e z. one-waits-less ts i t e z;
  as_many = λ ts i t e z. as-many-wait ts i t e z;
  rows_asked = λ s i. rows-asked s i;
  rows_others = λ i j rows z. rows-others i j rows z;
  rows_fired = λ i X Xs. rows-fired i X Xs;
}
