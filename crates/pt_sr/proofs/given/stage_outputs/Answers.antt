use Rattle.std.proofs.Common.{ℕ, ◌-◌, ◌<◌, ◌≤◌, length, ap, ◌∙◌, arith, refl, Some}
use Rattle.pt_sr.specs.State.{all_of}
use Rattle.pt_sr.proofs.GivenLaws.{nothing-staged, next-staged, next-ports}
use Rattle.pt_sr.proofs.given.stage_outputs.Goals as goal

pub loop-k-init : goal.loop-k-init
loop-k-init c = record { staged = c.clear.ensures.items ∙ nothing-staged (all_of c.args.outputs) c.args.feeds.now (length c.args.feeds.now) refl; ports = λ j h. refl }

pub loop-k-preserved : goal.loop-k-preserved
loop-k-preserved c =
    let k : ℕ = c.loop-k.k in
    let a : 0 < k = c.loop-k-test.true in
    let b : k ≤ length c.args.feeds.now = omega (arith, c.loop-k.auto.k) in
    record {
      staged =
          next-staged c.args.feeds.now k a b (all_of c.args.outputs) c.loop-k.staged.items c.push.new.self.items (Some c.in_ok-tokens.tokens) c.in_ok-push.ensures.items
          (ap (λ v. Some v) (c.in_ok-tokens.ensures.tokens ∙ c.loop-k.invariant.ports (k - 1) (omega (arith, a)))) c.loop-k.invariant.staged;
      ports = next-ports c.args.feeds.now k a b c.args.outputs c.loop-k.outputs c.taken.new.outputs c.requires c.in_ok-tokens.ensures.left c.loop-k.invariant.ports;
    }
