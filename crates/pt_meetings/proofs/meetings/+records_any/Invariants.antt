use Rattle.std.proofs.Common.{map, take}
use Rattle.pt_node.specs.Shown.{shown, shown_node, all_of}
use Rattle.pt_node.specs.Unmet.{AllRecordNone}
use Rattle.pt_node.specs.View.{outline_of, depth}
use Rattle.pt_meetings.proofs.meetings.+records_any.Given as goal

abbrev pub decreases-records_any : goal.decreases-records_any
decreases-records_any l = depth (outline_of (shown_node l.node.now))

abbrev pub invariant-loop-child : goal.invariant-loop-child
invariant-loop-child l = AllRecordNone (all_of (map shown (take l.child-index l.child-items)))
