use Rattle.pt_machine.proofs.Suiting.{machines-suit}
use Rattle.pt_machine.proofs.laws.machines_suit.Goals as goal

pub returns : goal.returns
returns c = machines-suit
