use Rattle.pt_lib_timed.proofs.Staying.{delay-whole}
use Rattle.pt_lib_timed.proofs.laws.delays_are_whole.Goals as goal

pub returns : goal.returns
returns c = delay-whole
