use Rattle.std.proofs.Common.{ap, ◌∙◌}
use Rattle.pt_reaction.specs.Channels.{lists_of}
use Rattle.pt_reaction.proofs.ChannelLaws.{copied-line}
use Rattle.pt_de_parts.proofs.rows.copies_of_lines.Goals as goal

pub loop-line-preserved : goal.loop-line-preserved
loop-line-preserved c = ap (λ v. lists_of v) c.in_ok-push.ensures.items ∙ copied-line c.args.lines.now c.loop-line.copies.items c.loop-line.line-index c.in_ok-copy.copy c.line-item.result c.loop-line.invariant c.loop-line-test.true c.line-item.is c.in_ok-copy.ensures
