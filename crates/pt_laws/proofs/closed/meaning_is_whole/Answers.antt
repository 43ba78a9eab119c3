use Rattle.pt_laws.proofs.WholeMeaning.{meaning-is-whole}
use Rattle.pt_laws.proofs.closed.meaning_is_whole.Goals as goal

pub returns : goal.returns
returns g c = meaning-is-whole
