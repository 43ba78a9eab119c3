use Rattle.pt_rv_laws.proofs.ApartLaws.{meetings-are-apart}
use Rattle.pt_rv_laws.proofs.laws.meetings_are_apart.Goals as goal

pub returns : goal.returns
returns g c = meetings-are-apart
