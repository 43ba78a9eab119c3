use Rattle.pt_pn_work.proofs.CoreLaws.{may-get, get-is, put-is, fire-is, does-so}
use Rattle.pt_pn_work.proofs.laws.events_are_seen.Goals as goal

pub returns : goal.returns
returns c = record {
  gets = λ n ps K L t g a i place x ps' L' h f e l. (may-get n ps K L t g a i place h, get-is n ps K L t g a i place x ps' L' h f e l);
  puts = λ n ps K L t g a i u us ps' L' z e l. put-is n ps K L t g a i u us ps' L' z e l;
  fires = λ n ps K L t g a i ps' e. fire-is n ps K L t g a i ps' e;
  does = λ n ps K L t g a i h ev d. does-so n ps K L t g a i h ev d;
}
