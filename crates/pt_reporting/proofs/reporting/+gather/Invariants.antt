use Rattle.pt_node.specs.declared.node.Node.{out-Node}
use Rattle.pt_node.specs.Shown.{shown_node}
use Rattle.pt_node.specs.View.{outline_of, depth}
use Rattle.pt_trees.specs.Ports.{outputs_in, filled}
use Rattle.pt_reporting.proofs.Walking.{StayFrom, FillingKids}
use Rattle.pt_reporting.proofs.reporting.+gather.Given as goal

abbrev pub decreases-gather : goal.decreases-gather
decreases-gather l = depth (outline_of (shown_node l.node.now))

abbrev pub invariant-loop-k : goal.invariant-loop-k
invariant-loop-k l =
    StayFrom l.k (out-Node l.fn.node).children.items (out-Node l.node).children.items ×
    FillingKids (out-Node l.fn.node).children.items l.k l.traces.items (filled (outputs_in (shown_node l.fn.node)) l.fn.traces.items)
