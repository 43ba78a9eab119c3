use Rattle.pt_block_laws.proofs.BlockLaws.{block-is-iterations}
use Rattle.pt_block_laws.proofs.block_is_iterations.Goals as goal

pub returns : goal.returns
returns g c = block-is-iterations
