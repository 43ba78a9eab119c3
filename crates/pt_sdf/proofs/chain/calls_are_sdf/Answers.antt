use Rattle.pt_sdf.proofs.ChainLaws.{calls-are-sdf}
use Rattle.pt_sdf.proofs.chain.calls_are_sdf.Goals as goal

pub returns : goal.returns
returns g c = calls-are-sdf
