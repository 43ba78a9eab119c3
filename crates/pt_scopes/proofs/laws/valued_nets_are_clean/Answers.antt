use Rattle.pt_scopes.proofs.Clean.{clean}
use Rattle.pt_scopes.proofs.laws.valued_nets_are_clean.Goals as goal

pub returns : goal.returns
returns c = clean
