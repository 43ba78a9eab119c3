use Rattle.std.proofs.Common.{ℕ, ◌<◌, ◌≤◌, length, ◌∙◌, arith, refl}
use Rattle.pt_sr.specs.State.{known_of}
use Rattle.pt_sr.proofs.GivenLaws.{nothing-staged, next-staged}
use Rattle.pt_sr.proofs.given.stage_partial.Goals as goal

pub loop-k-init : goal.loop-k-init
loop-k-init c = c.clear.ensures.items ∙ nothing-staged (known_of c.args.early.now) c.args.feeds.now (length c.args.feeds.now) refl

pub loop-k-preserved : goal.loop-k-preserved
loop-k-preserved c =
    let k : ℕ = c.loop-k.k in
    let a : 0 < k = c.loop-k-test.true in
    let b : k ≤ length c.args.feeds.now = omega (arith, c.loop-k.auto.k) in
    next-staged c.args.feeds.now k a b (known_of c.args.early.now) c.loop-k.staged.items c.push.new.self.items c.in_ok-told.told c.in_ok-push.ensures.items c.in_ok-told.ensures c.loop-k.invariant
