use Rattle.std.proofs.Common.{◌≡◌, ◌-◌, take, drop, ap, ◌∙◌, arith}
use Rattle.pt_firing.specs.TriState.{partial_of}
use Rattle.pt_de_laws.specs.State.{beside_delays}
use Rattle.pt_de_parts.proofs.KnownLaws.{states-none, states-more}
use Rattle.pt_de_parts.proofs.known.partial_at.Goals as goal

pub loop-channel-init : goal.loop-channel-init
loop-channel-init c = states-none partial_of c.new-states.result.items c.args.net.now.roles.delayed c.args.channels.now.lists c.args.first c.new-states.ensures.items

pub loop-channel-preserved : goal.loop-channel-preserved
loop-channel-preserved c =
    states-more partial_of c.loop-channel.states.items c.push.new.self.items c.in_ok-state.state c.args.net.now.roles.delayed c.args.channels.now.lists c.args.first c.loop-channel.channel c.is_delayed-delayed.result c.list.result.now (omega (arith, c.loop-channel.auto.channel))
    (omega (arith, c.loop-channel-test.true, c.requires.there, c.requires.delayed)) (omega (arith, c.loop-channel-test.true, c.requires.there, c.requires.channels)) c.in_ok-push.ensures.items c.in_ok-state.ensures c.is_delayed-delayed.ensures c.list.ensures c.loop-channel.invariant

pub returns : goal.returns
returns c =
    let e : c.loop-channel.channel ≡ c.args.end = omega (arith, c.loop-channel-test.false, c.loop-channel.auto.channel-end c.requires.within) in
    c.of.ensures ∙ c.loop-channel.invariant ∙ ap (λ n. beside_delays (take (n - c.args.first) (drop c.args.first c.args.net.now.roles.delayed)) (take (n - c.args.first) (drop c.args.first c.args.channels.now.lists))) e
