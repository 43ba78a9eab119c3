use Rattle.pt_laws.proofs.PlaceCounts.{full-lines-tell}
use Rattle.pt_laws.proofs.jams.full_lines_tell.Goals as goal

pub returns : goal.returns
returns g c = full-lines-tell
