use Rattle.pt_laws.proofs.UniqueLaws.{settled-is-least}
use Rattle.pt_laws.proofs.uniqueness.settled_is_least.Goals as goal

pub returns : goal.returns
returns g c = settled-is-least
