use Rattle.pt_typed.proofs.PortFacts.{channels-go-up}
use Rattle.pt_typed.proofs.laws.typings_go_up.Goals as goal

pub returns : goal.returns
returns c = channels-go-up
