use Rattle.std.proofs.Common.{ℕ, ◌<◌, List, length, take, sym, subst, arith}
use Rattle.std.proofs.lemmas.List.{take_more, length-take-le}
use Rattle.pt_net.specs.declared.net.Channel.{Channel}
use Rattle.pt_wiring.specs.Channels.{AreArrivals}
use Rattle.pt_wiring.proofs.ArrivalLaws.{few-arrived}
use Rattle.pt_wiring.proofs.inside.arrivals_at.Goals as goal

pub add_arrival-requires : goal.add_arrival-requires
add_arrival-requires c = λ i.
    let ks : List Channel = c.args.channels.now in
    let few = few-arrived c.args.count (take c.loop-channel.channel-index ks) c.loop-channel.arrivals.items c.loop-channel.invariant i in
    let some = length-take-le c.loop-channel.channel-index ks (omega arith) in
    omega (arith, few, some, c.requires)

pub loop-channel-preserved : goal.loop-channel-preserved
loop-channel-preserved c =
    let ks : List Channel = c.args.channels.now in
    let i : ℕ = c.loop-channel.channel-index in
    let within : i < length ks = omega arith in
    subst (λ some. AreArrivals c.args.count some c.add_arrival.new.arrivals.items) (sym (take_more ks i _ within)) (c.add_arrival.ensures c.args.count (take i ks) c.loop-channel.invariant)
