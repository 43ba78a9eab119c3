use Rattle.std.proofs.Common.{◌∙◌, arith}
use Rattle.pt_guards.proofs.NameLaws.{at-past}
use Rattle.pt_transitions.proofs.lists.given_at.Goals as goal

pub returns-then-port-ports : goal.returns-then-port-ports
returns-then-port-ports c = c.new.ensures ∙ at-past c.args.outputs.now c.args.port (omega (arith, c.if-port-ports.true, c.ports.ensures))
