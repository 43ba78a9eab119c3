use Rattle.std.proofs.Common.{map, subst}
use Rattle.pt_library.proofs.RateLaws.{started-rated}
use Rattle.pt_node.specs.declared.body.Body.{Body}
use Rattle.pt_node.specs.declared.node.Node.{out-Node}
use Rattle.pt_node.specs.Shown.{shown, all_of}
use Rattle.pt_node.specs.View.{node_with, nodes_of}
use Rattle.pt_trees.specs.Rates.{IsStarted}
use Rattle.pt_inside.proofs.rates.node_rates.Goals as goal

pub rates-requires : goal.rates-requires
rates-requires c =
    let node = out-Node c.args.node.now in
    let from = subst (λ (b : Body). IsStarted (node_with node.past b (nodes_of (all_of (map shown node.children.items))))) c.in-Actor.is c.requires in
    started-rated from.0 c.in-Actor.held.actor from.1
