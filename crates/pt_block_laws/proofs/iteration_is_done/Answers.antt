use Rattle.pt_block_laws.proofs.RoundLaws.{iteration-is-done}
use Rattle.pt_block_laws.proofs.iteration_is_done.Goals as goal

pub returns : goal.returns
returns g c = iteration-is-done
