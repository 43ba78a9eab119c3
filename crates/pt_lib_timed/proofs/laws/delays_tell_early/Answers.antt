use Rattle.pt_lib_timed.proofs.Staying.{tell-early}
use Rattle.pt_lib_timed.proofs.laws.delays_tell_early.Goals as goal

pub returns : goal.returns
returns c = tell-early
