use Rattle.pt_laws.proofs.LeastLaws.{valuation-least}
use Rattle.pt_laws.proofs.valuations_are_least.Goals as goal

pub returns : goal.returns
returns g c = λ early active turn tag keeps net kids inputs. valuation-least early active turn tag keeps net kids inputs
