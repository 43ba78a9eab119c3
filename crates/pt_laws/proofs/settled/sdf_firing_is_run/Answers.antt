use Rattle.pt_laws.proofs.FiringLaws.{sdf-firing-is-run}
use Rattle.pt_laws.proofs.settled.sdf_firing_is_run.Goals as goal

pub returns : goal.returns
returns g c = sdf-firing-is-run
