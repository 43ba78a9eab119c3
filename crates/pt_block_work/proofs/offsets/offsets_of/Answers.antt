use Rattle.std.proofs.Common.{◌≡◌, ℕ, ◌+◌, ◌<◌, length, get_or, arith}
use Rattle.pt_block_work.proofs.OffsetLaws.{offsets-more, offsets-all}
use Rattle.pt_block_work.proofs.offsets.offsets_of.Goals as goal

pub loop-count-preserved : goal.loop-count-preserved
loop-count-preserved c = offsets-more c.args.places.now c.loop-count.offsets.items c.push.new.self.items c.loop-count.count-index c.loop-count.next c.in-Some.after c.loop-count.invariant (omega (arith, c.loop-count-test.true)) c.in_ok-push.ensures.items (grind (arith, c.in-Some.ensures))
