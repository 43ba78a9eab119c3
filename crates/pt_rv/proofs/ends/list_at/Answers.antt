use Rattle.std.proofs.Common.{sym, arith}
use Rattle.pt_puts.proofs.LineLaws.{at-past}
use Rattle.pt_rv.proofs.ends.list_at.Goals as goal

pub returns-then-port-places : goal.returns-then-port-places
returns-then-port-places c = sym (at-past c.args.inputs.now c.args.port (omega (arith, c.if-port-places.true, c.places.ensures)))
