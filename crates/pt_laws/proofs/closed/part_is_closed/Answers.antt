use Rattle.pt_laws.proofs.WholeMeaning.{part-is-closed}
use Rattle.pt_laws.proofs.closed.part_is_closed.Goals as goal

pub returns : goal.returns
returns g c = part-is-closed
