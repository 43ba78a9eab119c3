use Rattle.pt_stated.proofs.Stating.{processes-stated}
use Rattle.pt_stated.proofs.laws.processes_are_stated.Goals as goal

pub returns : goal.returns
returns c = processes-stated
