use Rattle.std.proofs.Common.{◌≡◌, arith, length, ap, ◌∙◌}
use Rattle.pt_sched.specs.Stretches.{spread}
use Rattle.pt_sched.proofs.Steps.{held-start}
use Rattle.pt_sched.proofs.run.Run.new.Goals as goal

pub returns : goal.returns
returns c = λ q counted.
    let over : c.loop-channel.channel-index ≡ length c.args.channels.now = omega (arith, c.loop-channel-test.false, c.loop-channel.auto.channel-index-end) in
    let h = held-start c.args.channels.now q (spread c.new.result.items) c.in_ok-fired.fired.items c.loop-channel.lengths.items c.args.n (ap spread c.new.ensures.items) (c.in_ok-fired.ensures.items_if_clones_equal (λ y e. e)) counted (c.loop-channel.invariant.counted ∙ over) (λ k short. c.loop-channel.invariant.first k (omega (arith, short, over))) in
    record { order = h.0; counted = h.1; fired = h.2; small = h.3; lengths = h.4 }
