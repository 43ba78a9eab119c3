use Rattle.pt_machine.proofs.Clean.{machines-are-clean}
use Rattle.pt_machine.proofs.laws.machines_are_clean.Goals as goal

pub returns : goal.returns
returns c = machines-are-clean
