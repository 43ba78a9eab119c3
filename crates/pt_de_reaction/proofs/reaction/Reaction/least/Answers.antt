use Rattle.std.proofs.Common.{ap, ◌∙◌}
use Rattle.pt_meaning.specs.Tag.{least}
use Rattle.pt_de_reaction.specs.Reaction.{Flow}
use Rattle.pt_de_reaction.proofs.ReactionLaws.{start-needs}
use Rattle.pt_de_reaction.proofs.reaction.Reaction.least.Goals as goal

pub least-requires : goal.least-requires
least-requires c = start-needs c.self.inside c.self.invariant c.args.self.now c.self.view_is c.requires

pub returns : goal.returns
returns c = c.least.ensures ∙ ap (λ (f : Flow). least f.state.wakes) c.self.view_is
