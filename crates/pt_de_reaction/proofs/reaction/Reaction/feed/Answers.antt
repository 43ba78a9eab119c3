use Rattle.std.proofs.Common.{length, get_or, ap, ◌∙◌, arith}
use Rattle.pt_reaction.specs.Feeds.{Target, targets}
use Rattle.pt_de_due.proofs.GainedLaws.{target-there}
use Rattle.pt_de_reaction.specs.Reaction.{Flow, no_target}
use Rattle.pt_de_reaction.proofs.DeliverLaws.{target-at}
use Rattle.pt_de_reaction.proofs.ReactionLaws.{row-there}
use Rattle.pt_de_reaction.proofs.reaction.Reaction.feed.Goals as goal

pub feeds-requires : goal.feeds-requires
feeds-requires c = row-there c.self.inside c.self.invariant c.args.self.now c.self.view_is c.args.row c.requires.there

pub returns-clause-feed : goal.returns-clause-feed
returns-clause-feed c =
    target-at (length c.self.inside.net.plan.net.places) c.args.row c.self.inside.net.plan.net.sources c.feeds.result.now c.feeds.ensures.targets c.args.k ∙ ap (λ (f : Flow). get_or (targets (length f.state.plan.net.places) c.args.row 0 f.state.plan.net.sources) c.args.k no_target) c.self.view_is

pub returns-clause-there : goal.returns-clause-there
returns-clause-there c =
    let e = ap (λ (f : Flow). length (targets (length f.state.plan.net.places) c.args.row 0 f.state.plan.net.sources)) c.self.view_is in
    let q = ap (λ (t : Target). t.channel) (target-at (length c.self.inside.net.plan.net.places) c.args.row c.self.inside.net.plan.net.sources c.feeds.result.now c.feeds.ensures.targets c.args.k) in
    let t = target-there (length c.self.inside.net.plan.net.places) c.args.row c.self.inside.net.plan.net.sources c.args.k (omega (arith, c.requires.feed, e)) in
    let n = ap (λ (f : Flow). length f.state.plan.net.sources) c.self.view_is in
    omega (arith, t, q, n)
