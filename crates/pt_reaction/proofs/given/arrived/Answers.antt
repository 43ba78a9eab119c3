use Rattle.std.proofs.Common.{◌∙◌, arith}
use Rattle.pt_reaction.proofs.GivenLaws.{at-past}
use Rattle.pt_reaction.proofs.given.arrived.Goals as goal

pub returns-then-port-places : goal.returns-then-port-places
returns-then-port-places c = c.new.ensures ∙ at-past c.args.inputs.now c.args.feed.port (omega (arith, c.if-port-places.true, c.places.ensures))
