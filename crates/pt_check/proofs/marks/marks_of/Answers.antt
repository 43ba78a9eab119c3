use Rattle.std.proofs.Common.{ℕ, ◌<◌, ◌∷◌, [], List, length, take, sym, ap, subst, ◌∙◌, arith}
use Rattle.std.proofs.lemmas.List.{take_more}
use Rattle.std.proofs.lemmas.Grind.{flat_map-append}
use Rattle.pt_net.specs.declared.net.Channel.{Channel}
use Rattle.pt_net.specs.declared.net.End.{End}
use Rattle.pt_check.specs.Joined.{ends_of}
use Rattle.pt_check.specs.Marks.{AreMarks}
use Rattle.pt_check.proofs.marks.marks_of.Goals as goal

pub loop-channel-preserved : goal.loop-channel-preserved
loop-channel-preserved c =
    let ks : List Channel = c.args.channels.now in
    let i : ℕ = c.loop-channel.channel-index in
    let within : i < length ks = omega arith in
    let more = ap ends_of (take_more ks i _ within) ∙ flat_map-append (λ (k : Channel). k.from ∷ k.to ∷ []) (take i ks) (_ ∷ []) in
    record {
      marks = subst (λ (some : List End). AreMarks some c.mark_channel.new.rows.items) (sym more) (c.mark_channel.ensures.marks (ends_of (take i ks)) c.loop-channel.invariant.marks);
      sized = c.mark_channel.ensures.sized ∙ c.loop-channel.invariant.sized;
    }
