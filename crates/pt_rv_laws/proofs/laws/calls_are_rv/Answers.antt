use Rattle.pt_rv_laws.proofs.ChainLaws.{calls-are-rv}
use Rattle.pt_rv_laws.proofs.laws.calls_are_rv.Goals as goal

pub returns : goal.returns
returns g c = calls-are-rv
