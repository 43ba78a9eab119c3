use Rattle.std.proofs.Common.{w64, length, subst, arith}
use Rattle.std.proofs.lemmas.Int.{to_z-of_z}
use Rattle.pt_reaction.specs.Feeds.{targets}
use Rattle.pt_de_reaction.proofs.SignalLaws.{Gave, none-given, all-given, child-kept, feed-kept, open-kept, empty-kept, next-given}
use Rattle.pt_de_reaction.proofs.reaction.Reaction.give.Goals as goal

pub loop-k-init : goal.loop-k-init
loop-k-init c = none-given _ c.args.child c.args.self.now.state c.requires.there c.requires.room

pub give_one-requires-clause-there : goal.give_one-requires-clause-there
give_one-requires-clause-there c = child-kept c.args.child _ c.args.self.now.state c.loop-k.self.state c.loop-k.k c.loop-k.invariant c.requires.there

pub give_one-requires-clause-feed : goal.give_one-requires-clause-feed
give_one-requires-clause-feed c = feed-kept c.args.child _ c.args.self.now.state c.loop-k.self.state c.loop-k.k c.loop-k.invariant (omega (arith, c.loop-k-test.true, c.fed-k-end.ensures))

pub give_one-requires-clause-running : goal.give_one-requires-clause-running
give_one-requires-clause-running c = open-kept c.args.child _ c.args.self.now.state c.loop-k.self.state c.loop-k.k c.loop-k.invariant c.requires.running

pub give_one-requires-clause-empty : goal.give_one-requires-clause-empty
give_one-requires-clause-empty c = empty-kept c.args.child _ c.args.self.now.state c.loop-k.self.state c.loop-k.k c.loop-k.invariant (omega (arith, c.loop-k-test.true, c.fed-k-end.ensures))

pub loop-k-preserved : goal.loop-k-preserved
loop-k-preserved c = next-given c.args.child _ c.args.self.now.state c.loop-k.self.state c.loop-k.k c.loop-k.invariant c.give_one.new.self.state (omega (arith, c.loop-k-test.true, c.fed-k-end.ensures)) c.give_one.ensures

pub returns : goal.returns
returns c =
    subst (λ z. Gave c.args.child c.args.self.now.state c.loop-k.self.state z) (to_z-of_z w64 c.args.number c.ranges.number)
    (all-given _ (targets (length c.args.self.now.state.plan.net.places) c.args.child 0 c.args.self.now.state.plan.net.sources) c.args.self.now.state c.loop-k.self.state c.loop-k.k c.loop-k.invariant (omega (arith, c.loop-k-test.false, c.fed-k-end.ensures)))
