use Rattle.pt_sdf.proofs.ActsLaws.{sdf-is-lawful}
use Rattle.pt_sdf.proofs.acts.sdf_is_lawful.Goals as goal

pub returns : goal.returns
returns g c rows law = sdf-is-lawful rows law
