use Rattle.pt_block_laws.proofs.GrownLaws.{block-grows}
use Rattle.pt_block_laws.proofs.block_grows.Goals as goal

pub returns : goal.returns
returns g c = block-grows
