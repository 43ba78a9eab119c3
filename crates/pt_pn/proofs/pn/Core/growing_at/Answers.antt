use Rattle.std.proofs.Common.{arith}
use Rattle.std.proofs.lemmas.List.{get_or_read}
use Rattle.pt_pn.proofs.StepLaws.{capacity-there, read-capacity, read-greatest}
use Rattle.pt_pn.proofs.GrowingLaws.{other-put, no-growth, growth}
use Rattle.pt_pn.proofs.pn.Core.growing_at.Goals as goal

pub returns-then-next-channel-clause-none : goal.returns-then-next-channel-clause-none
returns-then-next-channel-clause-none c = other-put c.args.self.now c.args.process c.args.next c.args.channel c.requires (λ e. omega (arith, c.if-next-channel.true, e))

pub index-capacity-requires : goal.index-capacity-requires
index-capacity-requires c = let l = capacity-there c.self.inside c.self.invariant c.args.self.now c.self.view_is c.args.process c.args.next c.requires in omega (arith, l, c.self.inside.capacity.ok.0)

pub returns-then-capacity-greatest-clause-none : goal.returns-then-capacity-greatest-clause-none
returns-then-capacity-greatest-clause-none c =
    let l = capacity-there c.self.inside c.self.invariant c.args.self.now c.self.view_is c.args.process c.args.next c.requires in
    no-growth c.args.self.now c.args.process c.args.next c.args.channel c.requires c.index-capacity.result.now c.greatest.result (omega (arith, c.if-next-channel.false))
    (read-capacity c.self.inside c.self.invariant c.args.self.now c.self.view_is c.args.next c.index-capacity.result.now (get_or_read c.self.inside.capacity.items c.args.next c.index-capacity.result.now l c.index-capacity.ensures 0))
    (read-greatest c.self.inside c.self.invariant c.args.self.now c.self.view_is c.args.next c.greatest.result c.greatest.ensures) c.if-capacity-greatest.true

pub returns-clause-some : goal.returns-clause-some
returns-clause-some c =
    let l = capacity-there c.self.inside c.self.invariant c.args.self.now c.self.view_is c.args.process c.args.next c.requires in
    growth c.args.self.now c.args.process c.args.next c.args.channel c.requires c.index-capacity.result.now c.greatest.result (omega (arith, c.if-next-channel.false))
    (read-capacity c.self.inside c.self.invariant c.args.self.now c.self.view_is c.args.next c.index-capacity.result.now (get_or_read c.self.inside.capacity.items c.args.next c.index-capacity.result.now l c.index-capacity.ensures 0))
    (read-greatest c.self.inside c.self.invariant c.args.self.now c.self.view_is c.args.next c.greatest.result c.greatest.ensures) c.if-capacity-greatest.false
