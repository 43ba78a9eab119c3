use Rattle.pt_laws.proofs.MeaningLaws.{meaning_grows}
use Rattle.pt_laws.proofs.meaning_grows.Goals as goal

pub returns : goal.returns
returns g c = meaning_grows
