use Rattle.pt_laws.proofs.PlaceEnds.{puts-are}
use Rattle.pt_laws.proofs.puts_are.Goals as goal

pub returns : goal.returns
returns g c = puts-are
