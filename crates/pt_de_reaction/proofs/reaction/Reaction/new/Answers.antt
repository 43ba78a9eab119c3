use Rattle.std.proofs.Common.{length, ap, ◌∙◌, sym}
use Rattle.pt_de_reaction.proofs.ReactionLaws.{new-keeps, new-is}
use Rattle.pt_de_reaction.proofs.reaction.Reaction.new.Goals as goal

pub new-requires : goal.new-requires
new-requires c = let w = c.requires in ap (λ v. length v) c.depths.ensures ∙ w.depths ∙ sym w.starts ∙ sym (ap (λ v. length v) c.starts.ensures)

pub invariant_of-result : goal.invariant_of-result
invariant_of-result c =
    new-keeps c.args.net c.starts.result.now c.depths.result.now c.depths-2.result.now c.in_ok-agenda.agenda c.in_ok-last.last c.in_ok-channels.channels.lists c.in_ok-turns.turns c.channels.result c.children.result c.requires c.starts.ensures c.depths.ensures c.depths-2.ensures c.in_ok-agenda.ensures c.in_ok-last.ensures
    c.channels.ensures c.in_ok-channels.ensures c.children.ensures.count c.in_ok-turns.ensures

pub returns : goal.returns
returns c = new-is c.args.net c.starts.result.now c.in_ok-agenda.agenda c.in_ok-channels.channels.lists c.in_ok-turns.turns c.channels.result c.children.result _ c.starts.ensures c.in_ok-agenda.ensures c.channels.ensures c.in_ok-channels.ensures c.children.ensures.count c.in_ok-turns.ensures
