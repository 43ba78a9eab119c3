use Rattle.pt_sched.proofs.Confluence.{deadlock-excludes}
use Rattle.pt_sched.proofs.laws.deadlocks_exclude_schedules.Goals as goal

pub returns : goal.returns
returns c = deadlock-excludes
