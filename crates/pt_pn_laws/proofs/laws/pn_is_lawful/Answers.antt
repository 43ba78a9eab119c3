use Rattle.pt_pn_laws.proofs.ActsLaws.{pn-is-lawful}
use Rattle.pt_pn_laws.proofs.laws.pn_is_lawful.Goals as goal

pub returns : goal.returns
returns g c = λ rows law. pn-is-lawful rows law
