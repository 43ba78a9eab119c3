use Rattle.pt_de_reaction.proofs.ReactionLaws.{last-comes, over-comes, comes-last}
use Rattle.pt_de_reaction.proofs.reaction.Reaction.next_last.Goals as goal

pub number-requires : goal.number-requires
number-requires c = let l = last-comes c.self.inside c.self.invariant c.args.self.now c.self.view_is c.requires.running c.requires.none c.in-Some.child c.in-Some.ensures.first in l.there

pub returns-in-Some : goal.returns-in-Some
returns-in-Some c = comes-last c.args.self.now.state c.in-Some.child c.number.result (last-comes c.self.inside c.self.invariant c.args.self.now c.self.view_is c.requires.running c.requires.none c.in-Some.child c.in-Some.ensures.first) c.number.ensures

pub returns-in-None : goal.returns-in-None
returns-in-None c = over-comes c.self.inside c.self.invariant c.args.self.now c.self.view_is c.requires.running c.requires.none c.in-None.ensures.none
