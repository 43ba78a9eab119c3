use Rattle.pt_sched.proofs.Confluence.{schedule-restores}
use Rattle.pt_sched.proofs.laws.schedules_restore_lengths.Goals as goal

pub returns : goal.returns
returns c = schedule-restores
