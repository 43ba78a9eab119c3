use Rattle.std.proofs.Common.{ℕ, ◌<◌, List, length, take, sym, subst, ◌∙◌, arith}
use Rattle.std.proofs.lemmas.List.{take_more}
use Rattle.pt_net.specs.declared.net.Channel.{Channel}
use Rattle.pt_start.specs.Counts.{AreCounts}
use Rattle.pt_start.proofs.counts.counts_of.Goals as goal

pub loop-channel-preserved : goal.loop-channel-preserved
loop-channel-preserved c =
    let ks : List Channel = c.args.channels.now in
    let i : ℕ = c.loop-channel.channel-index in
    let within : i < length ks = omega arith in
    record {
      counts = subst (λ (some : List Channel). AreCounts some c.add_channel.new.rows.items) (sym (take_more ks i _ within)) (c.in_ok-add_channel.ensures.counts (take i ks) c.loop-channel.invariant.counts);
      sized = c.in_ok-add_channel.ensures.sized ∙ c.loop-channel.invariant.sized;
    }
