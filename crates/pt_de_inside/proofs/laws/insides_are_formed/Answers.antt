use Rattle.pt_de_inside.proofs.FormLaws.{insides-formed}
use Rattle.pt_de_inside.proofs.laws.insides_are_formed.Goals as goal

pub returns : goal.returns
returns c = insides-formed
