use Rattle.std.proofs.Common.{◌≤◌, map, subst, arith}
use Rattle.pt_node.specs.Shown.{shown, shown_node, all_of}
use Rattle.pt_node.specs.Unmet.{AllRecordNone}
use Rattle.pt_node.specs.View.{outline_of, outlines_of, depth, depths}
use Rattle.pt_meetings.proofs.Walking.{kid_depth}
use Rattle.pt_meetings.proofs.Recording.{none-next, none-all, none-kept}
use Rattle.pt_meetings.proofs.meetings.+records_any.Goals as goal

pub records_any-requires : goal.records_any-requires
records_any-requires t c =
    let deep = subst (λ items. depth (outline_of (shown_node c.child-item.result)) ≤ depths (outlines_of (all_of (map shown items)))) c.deref-child-items.ensures.value
    (kid_depth c.deref-child-items.result.now c.loop-child.child-index c.child-item.result c.loop-child-test.true c.child-item.is) in
    omega (arith, c.decreases, deep)

pub loop-child-preserved : goal.loop-child-preserved
loop-child-preserved t c = none-next c.deref-child-items.result.now c.loop-child.child-index c.child-item.result c.loop-child.invariant c.loop-child-test.true c.child-item.is (c.records_any.ensures c.if-records_any.false)

pub returns : goal.returns
returns t c = λ _. (none-kept c.as_slice.result _ _ c.as_slice.ensures c.if-is_some.ensures, subst (λ items. AllRecordNone (all_of (map shown items))) c.deref-child-items.ensures.value (none-all c.deref-child-items.result.now c.loop-child.child-index c.loop-child.invariant c.loop-child-test.false))
