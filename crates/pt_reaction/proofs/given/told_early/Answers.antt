use Rattle.std.proofs.Common.{◌∙◌, arith}
use Rattle.pt_reaction.proofs.GivenLaws.{known-past}
use Rattle.pt_reaction.proofs.given.told_early.Goals as goal

pub returns-then-port-places : goal.returns-then-port-places
returns-then-port-places c = c.new.ensures ∙ known-past c.args.early.now c.args.feed.port (omega (arith, c.if-port-places.true, c.places.ensures))
