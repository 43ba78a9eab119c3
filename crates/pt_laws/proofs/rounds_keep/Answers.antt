use Rattle.pt_laws.proofs.KahnLaws.{kahn-extends}
use Rattle.pt_laws.proofs.rounds_keep.Goals as goal

pub returns : goal.returns
returns g c = kahn-extends
