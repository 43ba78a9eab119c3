use Rattle.std.proofs.Common.{List, map, None, sym, ap, ◌∙◌, subst}
use Rattle.pt_directors.specs.Directors.{Director, of_de}
use Rattle.pt_node.specs.declared.node.Node.{Node}
use Rattle.pt_node.specs.Shown.{Shown, shown}
use Rattle.pt_trees.specs.Around.{around_of}
use Rattle.pt_trees.specs.Composite.{trees_of, IsComposed}
use Rattle.pt_trees.specs.De.{de}
use Rattle.pt_composite_node.specs.Nodes.{built}
use Rattle.pt_reactive_composites.specs.Timed.{StartsByPlan}
use Rattle.pt_reactive_composites.proofs.DeLaws.{composite-is}
use Rattle.pt_reactive_composites.proofs.de.de_composite.Goals as goal

pub returns-clause-node : goal.returns-clause-node
returns-clause-node c =
    let kids : List Shown = map shown c.args.children.items in
    let by : StartsByPlan (around_of c.args.wiring) (trees_of kids) c.in_ok-core.core =
    subst (λ (v : List Node). StartsByPlan (around_of c.args.wiring) (trees_of (map shown v)) c.in_ok-core.core) c.deref.ensures.value c.in_ok-core.ensures.core in
    subst (λ (s : Shown). IsComposed de (around_of c.args.wiring) kids c.args.path c.args.records c.args.labels s)
    (sym (c.composite_node.ensures ∙ ap (λ (d : Director). built d None kids c.args.path c.args.records c.args.labels) (c.in_ok-director.ensures ∙ c.de.ensures ∙ ap of_de by.is)))
    (composite-is (around_of c.args.wiring) kids c.args.path c.args.records c.args.labels by.plan by.is_plan c.requires.fresh c.requires.empty)
