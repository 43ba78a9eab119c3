use Rattle.pt_laws.proofs.PlaceCounts.{places-are-told}
use Rattle.pt_laws.proofs.jams.places_are_told.Goals as goal

pub returns : goal.returns
returns g c = places-are-told
