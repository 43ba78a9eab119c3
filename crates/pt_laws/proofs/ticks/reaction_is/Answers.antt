use Rattle.pt_laws.proofs.TickRunLaws.{reaction-is}
use Rattle.pt_laws.proofs.ticks.reaction_is.Goals as goal

pub returns : goal.returns
returns g c = reaction-is
