use Rattle.pt_lib_timed.proofs.RowLaws.{strict-wait}
use Rattle.pt_lib_timed.proofs.laws.strict_actors_wait.Goals as goal

pub returns : goal.returns
returns c = strict-wait
