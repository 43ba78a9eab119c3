use Rattle.pt_lib_time.proofs.RowLaws.{strict-wait}
use Rattle.pt_lib_time.proofs.laws.strict_actors_wait.Goals as goal

pub returns : goal.returns
returns c = strict-wait
