use Rattle.pt_block_laws.proofs.WorkLaws.{block-is-run}
use Rattle.pt_block_laws.proofs.block_is_run.Goals as goal

pub returns : goal.returns
returns g c = block-is-run
