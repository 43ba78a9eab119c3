use Rattle.pt_rv_laws.proofs.ActsLaws.{rv-is-lawful}
use Rattle.pt_rv_laws.proofs.laws.rv_is_lawful.Goals as goal

pub returns : goal.returns
returns g c = λ rows law. rv-is-lawful rows law
