use Rattle.pt_laws.proofs.PlaceEnds.{none-can-fire}
use Rattle.pt_laws.proofs.stopped_is_done.Goals as goal

pub returns : goal.returns
returns g c = λ facts step tag net kids start ms now h k none capacity a. none-can-fire facts net h k.held k.split none capacity 0 0 net.places ms now a
