use Rattle.pt_de_reaction.proofs.ReactionLaws.{first-comes, none-comes}
use Rattle.pt_de_reaction.proofs.reaction.Reaction.next.Goals as goal

pub of_due-requires : goal.of_due-requires
of_due-requires c = first-comes c.self.inside c.self.invariant c.args.self.now c.self.view_is c.requires c.in-Some.child c.in-Some.ensures.first

pub next_last-requires-clause-none : goal.next_last-requires-clause-none
next_last-requires-clause-none c = none-comes c.self.inside c.self.invariant c.args.self.now c.self.view_is c.requires c.in-None.ensures.none
