use Rattle.pt_tellable.proofs.OwnTexts.{own-texts}
use Rattle.pt_tellable.proofs.laws.texts_are_own.Goals as goal

pub returns : goal.returns
returns c = own-texts
