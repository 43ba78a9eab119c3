use Rattle.std.proofs.Common.{subst}
use Rattle.pt_sr.specs.declared.sr.Stage as declared
use Rattle.pt_sr.specs.Clauses.{StageFits}
use Rattle.pt_sr.proofs.sr.Core.int_inputs.Goals as goal

pub int_inputs-requires : goal.int_inputs-requires
int_inputs-requires c = subst (λ (g : declared.Stage). StageFits g c.self.inside.tick) c.in-Asked.is c.self.invariant
