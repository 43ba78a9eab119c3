use Rattle.pt_laws.proofs.ApartLaws.{legal_stays}
use Rattle.pt_laws.proofs.legal_stays.Goals as goal

pub returns : goal.returns
returns g c = legal_stays
