use Rattle.pt_de_laws.proofs.ActsLaws.{de-is-lawful}
use Rattle.pt_de_laws.proofs.laws.de_is_lawful.Goals as goal

pub returns : goal.returns
returns g c = λ rows law. de-is-lawful rows law
