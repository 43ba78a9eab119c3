use Rattle.std.proofs.Common.{map, None, Option, sym, ap, ◌∙◌, ◌≡◌, List}
use Rattle.pt_meaning.specs.Start.{first_of, first_of_node}
use Rattle.pt_meaning.specs.Streams.{get}
use Rattle.pt_core.specs.declared.source.Source.{Source}
use Rattle.pt_core.specs.Source.{source_of}
use Rattle.pt_node.specs.declared.node.Node.{Node}
use Rattle.pt_library.specs.LibraryActor.{rows}
use Rattle.pt_node.specs.Shown.{shown}
use Rattle.pt_node.specs.View.{Tree, node_of}
use Rattle.pt_trees.proofs.NodeLaws.{trees, tree-at, get-past, get-none}
use Rattle.pt_inside.proofs.tokens.first_of.Goals as goal

pub returns-in-Some : goal.returns-in-Some
returns-in-Some c =
    let kids : List Node = c.args.children.now in
    c.first_of_node.ensures ∙ ap (λ (o : Option Tree). first_of_node rows o) (sym (tree-at kids c.in-Output.child c.in-Some.node.now c.in-Some.ensures.lookup.3.0 c.in-Some.ensures.lookup.1)) ∙ ap (λ (s : Source). first_of rows (trees kids) (source_of s)) (sym c.in-Output.is)

pub returns-in-None : goal.returns-in-None
returns-in-None c =
    let kids : List Node = c.args.children.now in
    let none : get (trees kids) c.in-Output.child ≡ None = get-none node_of (map shown kids) c.in-Output.child (get-none shown kids c.in-Output.child (get-past kids c.in-Output.child c.in-None.ensures.lookup.3)) in
    ap (λ (o : Option Tree). first_of_node rows o) (sym none) ∙ ap (λ (s : Source). first_of rows (trees kids) (source_of s)) (sym c.in-Output.is)
