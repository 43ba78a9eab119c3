use Rattle.pt_sr.proofs.ActsLaws.{sr-is-lawful}
use Rattle.pt_sr.proofs.acts.sr_is_lawful.Goals as goal

pub returns : goal.returns
returns g c rows law = sr-is-lawful rows law
