use Rattle.std.proofs.Common.{ℕ, ◌<◌, List, length, take, sym, subst, arith}
use Rattle.std.proofs.lemmas.List.{take_more}
use Rattle.pt_net.specs.declared.net.Channel.{Channel}
use Rattle.pt_wiring.specs.Channels.{AreSources}
use Rattle.pt_wiring.proofs.inside.sources_of.Goals as goal

pub loop-channel-preserved : goal.loop-channel-preserved
loop-channel-preserved c = λ es numbers.
    let ks : List Channel = c.args.channels.now in
    let i : ℕ = c.loop-channel.channel-index in
    let within : i < length ks = omega arith in
    let old = c.loop-channel.invariant es numbers in
    subst (λ some. AreSources es some c.add_source.new.sources.items) (sym (take_more ks i _ within)) (c.in_ok-add_source.ensures es (take i ks) numbers old)
