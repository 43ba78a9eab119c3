use Rattle.pt_library.proofs.PlaceLaws.{places-stay}
use Rattle.pt_library.proofs.laws.places_stay.Goals as goal

pub returns : goal.returns
returns c = places-stay
