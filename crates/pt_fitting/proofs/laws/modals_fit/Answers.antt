use Rattle.pt_fitting.proofs.Joined.{modals-fit}
use Rattle.pt_fitting.proofs.laws.modals_fit.Goals as goal

pub returns : goal.returns
returns c = modals-fit
