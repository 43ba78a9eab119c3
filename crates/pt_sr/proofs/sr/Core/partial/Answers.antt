use Rattle.std.proofs.Common.{subst}
use Rattle.pt_sr.specs.declared.sr.Stage as declared
use Rattle.pt_sr.specs.Clauses.{StageFits}
use Rattle.pt_sr.proofs.sr.Core.partial.Goals as goal

pub partial-requires : goal.partial-requires
partial-requires c = subst (λ (g : declared.Stage). StageFits g c.self.inside.tick) c.in-Listens.is c.self.invariant
