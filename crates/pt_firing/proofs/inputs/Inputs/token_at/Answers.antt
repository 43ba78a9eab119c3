use Rattle.std.proofs.Common.{sym, ap, arith}
use Rattle.pt_firing.specs.Row.{first_in}
use Rattle.pt_firing.proofs.Places.{at-past}
use Rattle.pt_firing.proofs.inputs.Inputs.token_at.Goals as goal

pub returns-else-place-places : goal.returns-else-place-places
returns-else-place-places c = sym (ap first_in (at-past c.args.self.now c.args.place (omega arith)))
