use Rattle.pt_tellable.proofs.Telling.{can-be-told}
use Rattle.pt_tellable.proofs.laws.meetings_can_be_told.Goals as goal

pub returns : goal.returns
returns c = can-be-told
