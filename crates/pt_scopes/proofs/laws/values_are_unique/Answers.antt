use Rattle.pt_scopes.proofs.OneMeaning.{one-meaning}
use Rattle.pt_scopes.proofs.laws.values_are_unique.Goals as goal

pub returns : goal.returns
returns c = one-meaning
