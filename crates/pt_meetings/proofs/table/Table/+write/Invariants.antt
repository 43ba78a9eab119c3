use Rattle.pt_node.specs.declared.node.Node.{out-Node}
use Rattle.pt_node.specs.Shown.{shown_node}
use Rattle.pt_node.specs.View.{outline_of, depth}
use Rattle.pt_meetings.specs.Sites.{sites_in}
use Rattle.pt_meetings.proofs.Walking.{Telling}
use Rattle.pt_meetings.proofs.table.Table.+write.Given as goal

abbrev pub decreases-write : goal.decreases-write
decreases-write l = depth (outline_of (shown_node l.node.now))

abbrev pub invariant-loop-place : goal.invariant-loop-place
invariant-loop-place l = Telling l.self.net.now l.numbers (out-Node l.node).children.items l.place l.fn.out.items l.out.items (sites_in l.self.net.now.entities.items l.k (shown_node l.node))
