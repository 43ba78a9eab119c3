use Rattle.std.proofs.Common.{ℕ, ◌<◌, List, length, take, sym, subst, arith}
use Rattle.std.proofs.lemmas.List.{take_more}
use Rattle.pt_net.specs.declared.net.Channel.{Channel}
use Rattle.pt_within.specs.Within.{AreWithin}
use Rattle.pt_within.proofs.within.within_all.Goals as goal

pub loop-channel-preserved : goal.loop-channel-preserved
loop-channel-preserved c =
    let ks : List Channel = c.args.channels.now in
    let i : ℕ = c.loop-channel.channel-index in
    let within : i < length ks = omega arith in
    subst (λ (v : List Channel). AreWithin c.args.count v c.add_channel.new.lists.items) (sym (take_more ks i _ within)) (c.in_ok-add_channel.ensures c.args.count (take i ks) c.loop-channel.invariant)
