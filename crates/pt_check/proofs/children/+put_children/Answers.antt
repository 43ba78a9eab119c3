use Rattle.std.proofs.Common.{◌≤◌, map, subst, arith}
use Rattle.pt_node.specs.Shown.{shown, shown_node, all_of}
use Rattle.pt_node.specs.View.{outline_of, outlines_of, depth, depths}
use Rattle.pt_check.specs.Children.{repetitions_of, depths_of}
use Rattle.pt_check.proofs.ChildLaws.{child-depth, child-told}
use Rattle.pt_check.proofs.children.+put_children.Goals as goal

pub put_children-requires : goal.put_children-requires
put_children-requires t c =
    let deep = subst (λ items. depth (outline_of (shown_node c.child-item.result)) ≤ depths (outlines_of (all_of (map shown items)))) c.deref-child-items.ensures.value
    (child-depth c.deref-child-items.result.now c.loop-child.child-index c.child-item.result c.loop-child-test.true c.child-item.is) in
    omega (arith, c.decreases, deep)

pub loop-child-preserved : goal.loop-child-preserved
loop-child-preserved t c =
    let items = c.deref-child-items.result.now in
    let at = c.loop-child-test.true in
    record {
      repetitions = child-told repetitions_of items c.loop-child.child-index c.child-item.result c.loop-child.repetitions.items c.put_children.new.repetitions.items _ at c.child-item.is c.in_ok-put_children.ensures.repetitions c.loop-child.invariant.repetitions;
      depths = child-told depths_of items c.loop-child.child-index c.child-item.result c.loop-child.depths.items c.put_children.new.depths.items _ at c.child-item.is c.in_ok-put_children.ensures.depths c.loop-child.invariant.depths;
    }
