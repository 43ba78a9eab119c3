use Rattle.std.proofs.Common.{◌≡◌, ◌<◌, length, rules, arith, sym, subst}
use Rattle.pt_graph.proofs.GroupSteps.{apart_first, groups_one, grouped}
use Rattle.pt_graph.proofs.groups.group.Goals as goal

-- without links each thing is a group
pub returns-then-is_empty : goal.returns-then-is_empty
returns-then-is_empty c =
    let none : length c.args.links.now ≡ 0 = search rules in
    let own = c.in_ok-group.ensures.own in
    grouped 0 c.args.count c.args.links.now c.in_ok-group.group.items (omega (arith, none)) c.in_ok-group.ensures.counted (λ t below. subst (λ n. n < c.args.count) (sym (own t below)) below) (apart_first c.args.count c.args.links.now c.in_ok-group.group.items own)

pub loop-a-init : goal.loop-a-init
loop-a-init c = (c.in_ok-groups.ensures.kept, apart_first _ _ _ c.in_ok-groups.ensures.apart)

pub join-requires-clause-kept : goal.join-requires-clause-kept
join-requires-clause-kept c = rw c.loop-a.invariant.0.things c.loop-a.invariant.0

pub loop-a-preserved : goal.loop-a-preserved
loop-a-preserved c =
    let e = c.loop-a.invariant.0.things in
    (rw e at c.in_ok-join.ensures.kept, groups_one c.loop-a.a-index c.args.count c.args.links.now c.loop-a.groups.group.items c.join.new.self.group.items c.requires.ends c.loop-a-test.true (rw e at c.in_ok-join.ensures.merged) c.loop-a.invariant.1)

pub returns : goal.returns
returns c = grouped _ _ _ _ c.loop-a-test.false c.loop-a.invariant.0.things c.loop-a.invariant.0.within c.loop-a.invariant.1
