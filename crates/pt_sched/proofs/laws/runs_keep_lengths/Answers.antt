use Rattle.pt_sched.proofs.Confluence.{run-keeps}
use Rattle.pt_sched.proofs.laws.runs_keep_lengths.Goals as goal

pub returns : goal.returns
returns c = λ channels q order run. run-keeps channels q run
