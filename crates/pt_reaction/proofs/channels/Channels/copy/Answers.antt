use Rattle.std.proofs.Common.{length, ap, sym, ◌∙◌}
use Rattle.pt_reaction.specs.Channels.{lists_in, lists_of, Lanes}
use Rattle.pt_value.specs.declared.token.Token.{Token}
use Rattle.pt_reaction.proofs.ChannelLaws.{copied-lists, lists_of-long}
use Rattle.pt_reaction.proofs.channels.Channels.copy.Goals as goal

pub invariant_of-result : goal.invariant_of-result
invariant_of-result c = ap (λ b. length b) c.in_ok-used.ensures ∙ c.self.invariant ∙ sym (lists_of-long c.in_ok-lines.lines.items c.self.inside.lines.items (c.in_ok-lines.ensures ∙ ap (λ v. lists_of v) c.deref.ensures.value))

pub returns : goal.returns
returns c =
    ap (λ b. lists_in b c.in_ok-lines.lines.items) c.in_ok-used.ensures ∙ copied-lists c.self.inside.used c.in_ok-lines.lines.items c.self.inside.lines.items (c.in_ok-lines.ensures ∙ ap (λ v. lists_of v) c.deref.ensures.value) ∙
    ap (λ (m : Lanes Token). m.lists) c.self.view_is
