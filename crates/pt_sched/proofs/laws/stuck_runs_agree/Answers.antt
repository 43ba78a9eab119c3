use Rattle.pt_sched.proofs.Confluence.{stuck-agree}
use Rattle.pt_sched.proofs.laws.stuck_runs_agree.Goals as goal

pub returns : goal.returns
returns c = stuck-agree
