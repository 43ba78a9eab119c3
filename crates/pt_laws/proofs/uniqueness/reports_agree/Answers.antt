use Rattle.pt_laws.proofs.OutcomeLaws.{reports-agree}
use Rattle.pt_laws.proofs.uniqueness.reports_agree.Goals as goal

pub returns : goal.returns
returns g c = reports-agree
