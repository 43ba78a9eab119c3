use Rattle.std.proofs.Common.{◌+◌, ◌*◌, map}
use Rattle.pt_node.specs.Shown.{shown, shown_node, all_of}
use Rattle.pt_node.specs.View.{outline_of, outlines_of, depth, depths}
use Rattle.pt_node.specs.Reset.{KeepRecords, ResetTo}
use Rattle.pt_node.proofs.node.+reset.Given as goal

abbrev pub decreases-Node::reset : goal.decreases-Node::reset
decreases-Node::reset l = 3 * depth (outline_of (shown_node l.self.now))

abbrev pub decreases-reset_body : goal.decreases-reset_body
decreases-reset_body l = 3 * depths (outlines_of (all_of (map shown l.children.now.items))) + 2

abbrev pub decreases-reset_all : goal.decreases-reset_all
decreases-reset_all l = 3 * depths (outlines_of (all_of (map shown l.children.now.items))) + 1

abbrev pub invariant-reset_all-loop-k : goal.invariant-reset_all-loop-k
invariant-reset_all-loop-k l = ResetTo l.k (map shown l.fn.children.items) (map shown l.children.items) × KeepRecords (all_of (map shown l.fn.children.items)) (all_of (map shown l.children.items))
