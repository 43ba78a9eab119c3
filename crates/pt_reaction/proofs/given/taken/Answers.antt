use Rattle.std.proofs.Common.{◌∙◌, arith, []}
use Rattle.pt_reaction.proofs.GivenLaws.{at-past, unmoved}
use Rattle.pt_reaction.proofs.given.taken.Goals as goal

pub returns-then-port-ports-clause-tokens : goal.returns-then-port-ports-clause-tokens
returns-then-port-ports-clause-tokens c = c.new.ensures ∙ at-past c.args.outputs.now c.args.feed.port (omega (arith, c.if-port-ports.true, c.ports.ensures))

pub returns-then-port-ports-clause-left : goal.returns-then-port-ports-clause-left
returns-then-port-ports-clause-left c = unmoved c.args.feed.moves c.args.outputs.now c.args.feed.port [] (omega (arith, c.if-port-ports.true, c.ports.ensures))
