use Rattle.std.proofs.Common.{ℕ, ◌<◌, ◌≤◌, length, ap, ◌∙◌, arith, refl, Some}
use Rattle.pt_sr.specs.State.{all_of}
use Rattle.pt_sr.proofs.GivenLaws.{nothing-staged, next-staged}
use Rattle.pt_sr.proofs.given.stage_inputs.Goals as goal

pub loop-k-init : goal.loop-k-init
loop-k-init c = c.clear.ensures.items ∙ nothing-staged (all_of c.args.inputs.now) c.args.feeds.now (length c.args.feeds.now) refl

pub loop-k-preserved : goal.loop-k-preserved
loop-k-preserved c =
    let k : ℕ = c.loop-k.k in
    let a : 0 < k = c.loop-k-test.true in
    let b : k ≤ length c.args.feeds.now = omega (arith, c.loop-k.auto.k) in
    next-staged c.args.feeds.now k a b (all_of c.args.inputs.now) c.loop-k.staged.items c.push.new.self.items (Some c.in_ok-tokens.tokens) c.in_ok-push.ensures.items (ap (λ v. Some v) c.in_ok-tokens.ensures) c.loop-k.invariant
