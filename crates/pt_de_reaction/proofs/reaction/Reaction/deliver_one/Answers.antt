use Rattle.std.proofs.Common.{length, ap, ap₂, ◌∙◌, arith}
use Rattle.pt_reaction.specs.Channels.{spare_at}
use Rattle.pt_reaction.specs.Feeds.{Target}
use Rattle.pt_de_laws.specs.Chain.{with_tokens}
use Rattle.pt_de_due.specs.Due.{put}
use Rattle.pt_de_reaction.proofs.reaction.Reaction.deliver_one.Goals as goal

pub put-requires-clause-room : goal.put-requires-clause-room
put-requires-clause-room c =
    let g = (c.next_gift-gift.ensures c.requires.staged.0 c.requires.staged.1 c.requires.staged.2).0 in
    omega (arith, c.requires.staged.3, ap (λ v. length v) g, ap (λ (t : Target). spare_at c.args.self.now.spares t.channel) c.feed-feed.ensures.feed)

pub returns-clause-state : goal.returns-clause-state
returns-clause-state c = λ rest gift e. c.put.ensures.state ∙ ap₂ (λ (t : Target) ts. with_tokens (put t.channel ts c.args.self.now.state.tokens) c.args.self.now.state) c.feed-feed.ensures.feed (c.next_gift-gift.ensures rest gift e).0

pub returns-clause-staged : goal.returns-clause-staged
returns-clause-staged c = λ rest gift e. (c.next_gift-gift.ensures rest gift e).1

pub returns-clause-others : goal.returns-clause-others
returns-clause-others c = λ d h. c.put.ensures.others d (λ z. h (z ∙ ap (λ (t : Target). t.channel) c.feed-feed.ensures.feed))
