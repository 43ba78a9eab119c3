use Rattle.std.proofs.Common.{length, ap, arith}
use Rattle.pt_firing.proofs.Streams.{length-on_first}
use Rattle.pt_firing.proofs.outputs.spread.Goals as goal

pub push_reserved-requires-in-loop : goal.push_reserved-requires-in-loop
push_reserved-requires-in-loop c =
    omega (arith, ap length c.loop.invariant.0, length-on_first c.loop.counter c.args.first, c.loop.invariant.1, c.requires.room, c.loop-test.true)
