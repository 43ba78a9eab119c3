use Rattle.std.proofs.Common.{Some, map, sym, ap, ◌∙◌}
use Rattle.pt_meaning.specs.Start.{first_of_node}
use Rattle.pt_node.specs.declared.body.Body.{Body}
use Rattle.pt_node.specs.declared.node.Node.{out-Node}
use Rattle.pt_library.specs.LibraryActor.{rows}
use Rattle.pt_node.specs.Shown.{shown, all_of}
use Rattle.pt_node.specs.View.{node_with, nodes_of}
use Rattle.pt_inside.proofs.tokens.first_of_node.Goals as goal

pub returns-in-Actor : goal.returns-in-Actor
returns-in-Actor c =
    c.first.ensures ∙ ap (λ (b : Body). first_of_node rows (Some (node_with (out-Node c.args.node.now).past b (nodes_of (all_of (map shown (out-Node c.args.node.now).children.items)))))) (sym c.in-Actor.is)
