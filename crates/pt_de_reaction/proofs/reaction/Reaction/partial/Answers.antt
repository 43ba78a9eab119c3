use Rattle.std.proofs.Common.{◌-◌, arith}
use Rattle.pt_de_reaction.proofs.ReactionLaws.{child-there, between, ask-within, lists-long, delayed-long, partial-seen}
use Rattle.pt_de_reaction.proofs.reaction.Reaction.partial.Goals as goal

pub first-first-requires : goal.first-first-requires
first-first-requires c = child-there c.self.inside c.self.invariant c.args.self.now c.self.view_is c.args.child c.requires

pub behind-end-requires : goal.behind-end-requires
behind-end-requires c = child-there c.self.inside c.self.invariant c.args.self.now c.self.view_is c.args.child c.requires

pub partial_at-requires-clause-within : goal.partial_at-requires-clause-within
partial_at-requires-clause-within c = (between c.self.inside c.self.invariant c.args.self.now c.self.view_is c.args.child c.first-first.result c.behind-end.result c.requires c.first-first.ensures c.behind-end.ensures).0

pub partial_at-requires-clause-there : goal.partial_at-requires-clause-there
partial_at-requires-clause-there c =
    let b = between c.self.inside c.self.invariant c.args.self.now c.self.view_is c.args.child c.first-first.result c.behind-end.result c.requires c.first-first.ensures c.behind-end.ensures in
    let l = b.0 in
    let w = ask-within c.self.inside c.self.invariant c.args.self.now c.self.view_is c.args.child c.first-first.result (c.behind-end.result - c.first-first.result) c.requires c.first-first.ensures b.1 in
    let n = lists-long c.self.inside c.self.invariant c.args.self.now c.self.view_is in
    omega (arith, l, w, n)

pub partial_at-requires-clause-delayed : goal.partial_at-requires-clause-delayed
partial_at-requires-clause-delayed c = delayed-long c.self.inside c.self.invariant c.args.self.now c.self.view_is

pub partial_at-requires-clause-channels : goal.partial_at-requires-clause-channels
partial_at-requires-clause-channels c = lists-long c.self.inside c.self.invariant c.args.self.now c.self.view_is

pub returns : goal.returns
returns c = partial-seen c.self.inside c.self.invariant c.args.self.now c.self.view_is c.partial_at.result c.args.child c.first-first.result c.behind-end.result c.first-first.ensures (between c.self.inside c.self.invariant c.args.self.now c.self.view_is c.args.child c.first-first.result c.behind-end.result c.requires c.first-first.ensures c.behind-end.ensures).1 c.partial_at.ensures
