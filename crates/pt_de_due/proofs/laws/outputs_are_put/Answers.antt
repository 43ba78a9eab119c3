use Rattle.pt_de_due.proofs.GainedLaws.{gained-puts, early-puts, begun-puts, target-there, targets-rise}
use Rattle.pt_de_due.proofs.laws.outputs_are_put.Goals as goal

pub returns : goal.returns
returns g c = record {
  given = λ n i out cs X h e. gained-puts n i out cs X h e;
  early = λ n i early cs X h e. early-puts n i early cs X h e;
  arrived = λ n inputs cs h. begun-puts n inputs cs h;
  there = λ n r cs k l. target-there n r cs k l;
  rising = λ n r cs j k h l. targets-rise n r cs j k h l;
}
