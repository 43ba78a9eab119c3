use Rattle.std.proofs.Common.{length, ap, sym, ◌∙◌, false}
use Rattle.std.proofs.lemmas.List.{length-replicate}
use Rattle.pt_reaction.specs.Channels.{lists_in}
use Rattle.pt_reaction.proofs.ChannelLaws.{none-lists}
use Rattle.pt_reaction.proofs.channels.Channels.new.Goals as goal

pub invariant_of-result : goal.invariant_of-result
invariant_of-result c = ap (λ b. length b) c.in_ok-used.ensures ∙ length-replicate c.args.count false ∙ sym c.in_ok-lines.ensures

pub returns : goal.returns
returns c = ap (λ b. lists_in b c.in_ok-lines.lines.items) c.in_ok-used.ensures ∙ none-lists c.args.count c.in_ok-lines.lines.items c.in_ok-lines.ensures
