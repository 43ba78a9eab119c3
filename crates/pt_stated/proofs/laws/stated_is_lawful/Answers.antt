use Rattle.pt_stated.proofs.Lawful.{stated-lawful}
use Rattle.pt_stated.proofs.laws.stated_is_lawful.Goals as goal

pub returns : goal.returns
returns c = stated-lawful
