use Rattle.pt_laws.proofs.PlaceCounts.{lines-tell}
use Rattle.pt_laws.proofs.jams.lines_tell.Goals as goal

pub returns : goal.returns
returns g c = lines-tell
