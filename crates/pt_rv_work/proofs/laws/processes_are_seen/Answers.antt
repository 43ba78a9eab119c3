use Rattle.pt_rv_work.proofs.SeenLaws.{processes-are-seen}
use Rattle.pt_rv_work.proofs.laws.processes_are_seen.Goals as goal

pub returns : goal.returns
returns g c = processes-are-seen
