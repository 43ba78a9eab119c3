use Rattle.std.proofs.Common.{arith}
use Rattle.pt_sr.proofs.GivenLaws.{known-past}
use Rattle.pt_sr.proofs.given.told_early.Goals as goal

pub returns-then-port-places : goal.returns-then-port-places
returns-then-port-places c = known-past c.args.early.now c.args.feed.port (omega (arith, c.if-port-places.true, c.places.ensures))
