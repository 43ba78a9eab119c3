-- What a node shows is what it shows by its fields.
use Rattle.std.proofs.Common.{◌≡◌, sym, ap, ◌∙◌}
use Rattle.pt_node.specs.declared.node.Node.{Node}
use Rattle.pt_node.specs.declared.node.Node.TheViews as views
use Rattle.pt_node.specs.declared.node.Node.TheFolds.{fold-roll-Node}
use Rattle.pt_node.specs.Shown.{Shown, shown, shown_node, node_step}

pub shown-node : (n : Node) → shown n ≡ shown_node n
unfolding shown
shown-node n = ap shown (sym (views.roll-out-Node n)) ∙ fold-roll-Node Shown node_step (views.out-Node n)
