use Rattle.pt_plannable.proofs.Joined.{insides-there}
use Rattle.pt_plannable.proofs.laws.insides_are_there.Goals as goal

pub returns : goal.returns
returns c = insides-there c.stated_is_lawful.ensures
