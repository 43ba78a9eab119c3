use Rattle.pt_laws.proofs.FiringLaws.{pn-firing-is-run}
use Rattle.pt_laws.proofs.settled.pn_firing_is_run.Goals as goal

pub returns : goal.returns
returns g c = pn-firing-is-run
