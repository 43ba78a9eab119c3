use Rattle.pt_node.proofs.InTurnLaws.{recorded-together}
use Rattle.pt_node.proofs.in_turn.notes_add_up.Goals as goal

pub returns : goal.returns
returns c = recorded-together
