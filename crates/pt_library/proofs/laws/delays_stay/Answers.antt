use Rattle.pt_library.proofs.DelayLaws.{delays-stay}
use Rattle.pt_library.proofs.laws.delays_stay.Goals as goal

pub returns : goal.returns
returns c = delays-stay
