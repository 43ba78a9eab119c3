use Rattle.std.proofs.Common.{length, ap, sym, ◌∙◌}
use Rattle.pt_process.proofs.NetworkLaws.{at-read}
use Rattle.pt_puts.proofs.LineLaws.{at-past}
use Rattle.pt_process.proofs.network.first_count.Goals as goal

pub returns-then-channel-first : goal.returns-then-channel-first
returns-then-channel-first c = ap (λ v. length v) (sym (at-past c.args.first.now c.args.channel c.if-channel-first.true))

pub returns : goal.returns
returns c = c.len.ensures ∙ ap (λ v. length v) (at-read c.args.first.now c.args.channel c.index-first-channel.result c.if-channel-first.false c.index-first-channel.is)
