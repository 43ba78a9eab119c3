use Rattle.pt_de_reaction.proofs.ReactionLaws.{copy-keeps, copy-is}
use Rattle.pt_de_reaction.proofs.reaction.Reaction.copy.Goals as goal

pub invariant_of-result : goal.invariant_of-result
invariant_of-result c = copy-keeps c.self.inside c.self.invariant c.args.self.now c.self.view_is c.in_ok-net.net c.in_ok-agenda.agenda c.in_ok-last.last c.in_ok-turns.turns c.in_ok-channels.channels.lists c.in_ok-net.ensures c.in_ok-agenda.ensures c.in_ok-last.ensures c.in_ok-turns.ensures c.in_ok-channels.ensures

pub returns : goal.returns
returns c = copy-is c.self.inside c.self.invariant c.args.self.now c.self.view_is c.in_ok-net.net c.in_ok-agenda.agenda c.in_ok-turns.turns c.in_ok-channels.channels.lists c.in_ok-net.ensures c.in_ok-agenda.ensures c.in_ok-turns.ensures c.in_ok-channels.ensures
