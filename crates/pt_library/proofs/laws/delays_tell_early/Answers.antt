use Rattle.pt_library.proofs.DelayLaws.{tell-early}
use Rattle.pt_library.proofs.laws.delays_tell_early.Goals as goal

pub returns : goal.returns
returns c = tell-early
