use Rattle.pt_laws.proofs.PlaceCounts.{last-puts-are-told}
use Rattle.pt_laws.proofs.jams.last_puts_are_told.Goals as goal

pub returns : goal.returns
returns g c = last-puts-are-told
