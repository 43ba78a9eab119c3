use Rattle.std.proofs.Common.{◌≡◌, ◌++◌}
use Rattle.pt_node.specs.Shown.{shown_node}
use Rattle.pt_node.specs.View.{outline_of, depth}
use Rattle.pt_check.specs.Children.{told_in, repetitions_of, depths_of}
use Rattle.pt_check.proofs.ChildLaws.{left_of}
use Rattle.pt_check.proofs.children.+put_children.Given as goal

abbrev pub decreases-put_children : goal.decreases-put_children
decreases-put_children l = depth (outline_of (shown_node l.node.now))

abbrev pub invariant-loop-child : goal.invariant-loop-child
invariant-loop-child l = record {
  repetitions : l.repetitions.items ++ left_of repetitions_of l.child-items l.child-index ≡ l.fn.repetitions.items ++ told_in repetitions_of (shown_node l.node);
  depths : l.depths.items ++ left_of depths_of l.child-items l.child-index ≡ l.fn.depths.items ++ told_in depths_of (shown_node l.node);
}
