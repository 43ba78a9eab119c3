use Rattle.std.proofs.Common.{List, map, None, sym, ap, ◌∙◌, subst}
use Rattle.pt_directors.specs.Directors.{Director, of_modal}
use Rattle.pt_node.specs.declared.node.Node.{Node}
use Rattle.pt_node.specs.Shown.{Shown, shown}
use Rattle.pt_trees.specs.Around.{around_of}
use Rattle.pt_trees.specs.Composite.{trees_of, IsComposed}
use Rattle.pt_trees.specs.Fresh.{AllFresh}
use Rattle.pt_trees.specs.Modal.{modal}
use Rattle.pt_modal_composite.specs.Machines.{StartsByMachine}
use Rattle.pt_composite_node.specs.Nodes.{built}
use Rattle.pt_modal_composite.proofs.ModalLaws.{composite-is}
use Rattle.pt_modal_composite.proofs.modal.modal_composite.Goals as goal

pub core_of-requires : goal.core_of-requires
core_of-requires c = subst (λ (v : List Node). AllFresh (map shown v)) (sym c.deref.ensures.value) c.requires.fresh

pub returns-clause-node : goal.returns-clause-node
returns-clause-node c =
    let kids : List Shown = map shown c.args.children.items in
    let by : StartsByMachine (around_of c.args.wiring) (trees_of kids) c.in_ok-core.core =
    subst (λ (v : List Node). StartsByMachine (around_of c.args.wiring) (trees_of (map shown v)) c.in_ok-core.core) c.deref.ensures.value c.in_ok-core.ensures.core in
    subst (λ (s : Shown). IsComposed modal (around_of c.args.wiring) kids c.args.path c.args.records c.args.labels s)
    (sym (c.composite_node.ensures ∙ ap (λ (d : Director). built d None kids c.args.path c.args.records c.args.labels) (c.in_ok-director.ensures ∙ c.modal.ensures ∙ ap of_modal by.is)))
    (composite-is (around_of c.args.wiring) kids c.args.path c.args.records c.args.labels by.wired c.requires.fresh c.requires.empty)
