use Rattle.pt_laws.proofs.CutLaws.{cut-law}
use Rattle.pt_laws.proofs.settled.cut_law.Goals as goal

pub returns : goal.returns
returns g c = cut-law
