use Rattle.std.proofs.Common.{◌≡◌, w64, [], ◌∷◌, ap, subst, ◌∙◌}
use Rattle.std.proofs.lemmas.Int.{to_z-of_z}
use Rattle.pt_meaning.specs.Streams.{at}
use Rattle.pt_value.specs.declared.token.Token.TheVariants.{Int}
use Rattle.pt_reaction.specs.Feeds.{Target}
use Rattle.pt_de_laws.specs.Chain.{with_tokens}
use Rattle.pt_de_due.specs.Due.{put}
use Rattle.pt_de_reaction.proofs.SignalLaws.{nothing-at, first-at}
use Rattle.pt_de_reaction.proofs.reaction.Reaction.give_one.Goals as goal

pub put_first-requires-clause-empty : goal.put_first-requires-clause-empty
put_first-requires-clause-empty c = ap (λ (t : Target). at c.args.self.now.state.tokens t.channel) c.feed-feed.ensures.feed ∙ c.requires.empty

pub returns-then-feed-gt0 : goal.returns-then-feed-gt0
returns-then-feed-gt0 c = nothing-at c.args.self.now.state _ _ (Int c.args.number ∷ []) c.feed-feed.ensures.feed c.if-feed-gt0.true

pub returns : goal.returns
returns c = first-at c.args.self.now.state c.put_first.new.self.state _ _ (Int c.args.number ∷ []) c.feed-feed.ensures.feed c.if-feed-gt0.false (subst (λ z. c.put_first.new.self.state ≡ with_tokens (put c.feed-feed.result.channel (Int z ∷ []) c.args.self.now.state.tokens) c.args.self.now.state) (to_z-of_z w64 c.args.number c.ranges.number) c.put_first.ensures)
