use Rattle.pt_cover.proofs.Telling.{told-ports}
use Rattle.pt_cover.proofs.laws.ports_have_places.Goals as goal

pub returns : goal.returns
returns c = told-ports
