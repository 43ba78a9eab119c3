use Rattle.pt_library.proofs.DelayLaws.{delay-whole}
use Rattle.pt_library.proofs.laws.delays_are_whole.Goals as goal

pub returns : goal.returns
returns c = delay-whole
