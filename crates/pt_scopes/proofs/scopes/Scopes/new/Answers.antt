use Rattle.pt_scopes.proofs.SeenLaws.{no-scopes}
use Rattle.pt_scopes.proofs.scopes.Scopes.new.Goals as goal

pub returns-clause-scopes : goal.returns-clause-scopes
returns-clause-scopes c = λ net. no-scopes net record { frames = c.new.result; opaque = c.new-2.result; transparent = c.new-3.result } c.new-2.ensures.items c.new-3.ensures.items
