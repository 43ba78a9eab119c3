use Rattle.std.proofs.Common.{◌∙◌, sym}
use Rattle.pt_de_reaction.proofs.ReactionLaws.{comes-early, comes-fire}
use Rattle.pt_de_reaction.proofs.reaction.Reaction.of_due.Goals as goal

pub number-number-requires : goal.number-number-requires
number-number-requires c = c.requires.there

pub returns-then-is_early : goal.returns-then-is_early
returns-then-is_early c = comes-early c.args.self.now.state c.args.child c.number-number.result c.requires c.number-number.ensures (sym c.is_early.ensures ∙ c.if-is_early.true)

pub returns-else-is_early : goal.returns-else-is_early
returns-else-is_early c = comes-fire c.args.self.now.state c.args.child c.number-number.result c.requires c.number-number.ensures (sym c.is_early.ensures ∙ c.if-is_early.false)
