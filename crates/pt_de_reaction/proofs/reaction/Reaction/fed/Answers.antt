use Rattle.std.proofs.Common.{length, ap, ◌∙◌}
use Rattle.pt_reaction.specs.Feeds.{targets}
use Rattle.pt_de_reaction.specs.Reaction.{Flow}
use Rattle.pt_de_reaction.proofs.DeliverLaws.{same-long}
use Rattle.pt_de_reaction.proofs.ReactionLaws.{row-there}
use Rattle.pt_de_reaction.proofs.reaction.Reaction.fed.Goals as goal

pub feeds-requires : goal.feeds-requires
feeds-requires c = row-there c.self.inside c.self.invariant c.args.self.now c.self.view_is c.args.row c.requires

pub returns : goal.returns
returns c =
    same-long (length c.self.inside.net.plan.net.places) c.args.row c.self.inside.net.plan.net.sources c.feeds.result.now c.feeds.ensures.targets ∙ ap (λ (f : Flow). length (targets (length f.state.plan.net.places) c.args.row 0 f.state.plan.net.sources)) c.self.view_is
