use Rattle.pt_sr.proofs.ChainLaws.{calls-are-sr}
use Rattle.pt_sr.proofs.chain.calls_are_sr.Goals as goal

pub returns : goal.returns
returns g c = calls-are-sr
