use Rattle.std.proofs.Common.{◌∙◌}
use Rattle.pt_de_reaction.proofs.ReactionLaws.{child-there, early-seen}
use Rattle.pt_de_reaction.proofs.reaction.Reaction.is_early.Goals as goal

pub is_early-requires : goal.is_early-requires
is_early-requires c = child-there c.self.inside c.self.invariant c.args.self.now c.self.view_is c.args.child c.requires

pub returns : goal.returns
returns c = c.is_early.ensures ∙ early-seen c.self.inside c.self.invariant c.args.self.now c.self.view_is c.args.child
