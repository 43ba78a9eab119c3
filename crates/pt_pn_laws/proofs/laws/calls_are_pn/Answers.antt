use Rattle.pt_pn_laws.proofs.ChainLaws.{calls-are-pn}
use Rattle.pt_pn_laws.proofs.laws.calls_are_pn.Goals as goal

pub returns : goal.returns
returns g c = calls-are-pn
