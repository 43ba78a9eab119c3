use Rattle.std.proofs.Common.{arith, below_more}
use Rattle.pt_sr.proofs.TickLaws.{child-there, feed-there, feed-told, feed-quiet, feeds-told}
use Rattle.pt_sr.proofs.tick.Tick.has_told.Goals as goal

pub index-row-requires : goal.index-row-requires
index-row-requires c = omega (arith, child-there c.self.inside c.args.self.now c.args.child c.self.view_is c.requires, c.self.invariant.fed.targets.counted, c.self.inside.feeds.ok.0)

pub is_known-known-requires : goal.is_known-known-requires
is_known-known-requires c =
    feed-there c.self.inside c.self.invariant c.args.self.now c.self.view_is c.args.child (child-there c.self.inside c.args.self.now c.args.child c.self.view_is c.requires) c.index-row.result.now c.index-row.ensures
    c.loop-k.k (omega (arith, c.loop-k-test.true, c.len-k-end.ensures, c.index-row.result.now.ok.0)) c.index-feed.result.now c.index-feed.ensures

pub returns-then-not-known-clause-some : goal.returns-then-not-known-clause-some
returns-then-not-known-clause-some c e =
    feed-quiet c.self.inside c.self.invariant c.args.self.now c.self.view_is c.args.child (child-there c.self.inside c.args.self.now c.args.child c.self.view_is c.requires) c.index-row.result.now c.index-row.ensures
    c.loop-k.k (omega (arith, c.loop-k-test.true, c.len-k-end.ensures, c.index-row.result.now.ok.0)) c.index-feed.result.now c.index-feed.ensures c.is_known-known.result c.is_known-known.ensures c.if-not-known.true

pub loop-k-preserved : goal.loop-k-preserved
loop-k-preserved c =
    below_more _ _ c.loop-k.invariant
    (feed-told c.self.inside c.self.invariant c.args.self.now c.self.view_is c.args.child (child-there c.self.inside c.args.self.now c.args.child c.self.view_is c.requires) c.index-row.result.now c.index-row.ensures
    c.loop-k.k (omega (arith, c.loop-k-test.true, c.len-k-end.ensures, c.index-row.result.now.ok.0)) c.index-feed.result.now c.index-feed.ensures c.is_known-known.result c.is_known-known.ensures c.if-not-known.false)

pub returns-clause-all : goal.returns-clause-all
returns-clause-all c e =
    feeds-told c.self.inside c.self.invariant c.args.self.now c.self.view_is c.args.child (child-there c.self.inside c.args.self.now c.args.child c.self.view_is c.requires) c.index-row.result.now c.index-row.ensures
    c.loop-k.k (omega (arith, c.loop-k-test.false, c.len-k-end.ensures, c.index-row.result.now.ok.0)) c.loop-k.invariant
