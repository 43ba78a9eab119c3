use Rattle.std.proofs.Common.{length, ◌∙◌, arith}
use Rattle.pt_reaction.specs.Feeds.{targets}
use Rattle.pt_de_reaction.proofs.DeliverLaws.{none-yet, stage-still, row-still, feed-still, gift-fits, next-so-far, all-put}
use Rattle.pt_de_reaction.proofs.reaction.Reaction.deliver.Goals as goal

pub loop-k-init : goal.loop-k-init
loop-k-init c = λ given a. none-yet given (targets (length c.args.self.now.state.plan.net.places) c.args.row 0 c.args.self.now.state.plan.net.sources) c.args.self.now.state c.args.staged.now.items c.args.self.now.spares a

pub deliver_one-requires-clause-there : goal.deliver_one-requires-clause-there
deliver_one-requires-clause-there c = row-still c.args.row c.requires.staged.0 c.args.self.now.state c.loop-k.self.state c.loop-k.k c.loop-k.staged.items c.loop-k.self.spares (c.loop-k.invariant c.requires.staged.0 c.requires.staged.1) c.requires.there

pub deliver_one-requires-clause-feed : goal.deliver_one-requires-clause-feed
deliver_one-requires-clause-feed c =
    feed-still c.args.row c.requires.staged.0 c.args.self.now.state c.loop-k.self.state c.loop-k.k c.loop-k.staged.items c.loop-k.self.spares (c.loop-k.invariant c.requires.staged.0 c.requires.staged.1) (omega (arith, c.loop-k-test.true, c.fed-k-end.ensures))

pub deliver_one-requires-clause-running : goal.deliver_one-requires-clause-running
deliver_one-requires-clause-running c =
    stage-still c.requires.staged.0 (targets (length c.args.self.now.state.plan.net.places) c.args.row 0 c.args.self.now.state.plan.net.sources) c.args.self.now.state c.loop-k.self.state c.loop-k.k c.loop-k.staged.items c.loop-k.self.spares (c.loop-k.invariant c.requires.staged.0 c.requires.staged.1) ∙ c.requires.running

pub deliver_one-requires-clause-staged : goal.deliver_one-requires-clause-staged
deliver_one-requires-clause-staged c =
    gift-fits c.args.row c.requires.staged.0 c.args.self.now.state c.loop-k.self.state c.loop-k.k c.loop-k.staged.items c.loop-k.self.spares (c.loop-k.invariant c.requires.staged.0 c.requires.staged.1) (omega (arith, c.loop-k-test.true, c.fed-k-end.ensures))

pub loop-k-preserved : goal.loop-k-preserved
loop-k-preserved c = λ given a.
    next-so-far c.args.row given c.args.self.now.state c.loop-k.self.state c.loop-k.k c.loop-k.staged.items c.loop-k.self.spares (c.loop-k.invariant given a) c.deliver_one.new.self.state c.deliver_one.new.staged.items c.deliver_one.new.self.spares (omega (arith, c.loop-k-test.true, c.fed-k-end.ensures))
    c.deliver_one.ensures.state c.deliver_one.ensures.staged c.deliver_one.ensures.others

pub returns : goal.returns
returns c = λ given a.
    all-put given (targets (length c.args.self.now.state.plan.net.places) c.args.row 0 c.args.self.now.state.plan.net.sources) c.args.self.now.state c.loop-k.self.state c.loop-k.k c.loop-k.staged.items c.loop-k.self.spares (c.loop-k.invariant given a) (omega (arith, c.loop-k-test.false, c.fed-k-end.ensures))
