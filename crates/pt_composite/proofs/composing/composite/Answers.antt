use Rattle.std.proofs.Common.{map, sym, subst}
use Rattle.std.specs.Prelude.{IfOk}
use Rattle.pt_node.specs.Shown.{shown, shown_node}
use Rattle.pt_trees.specs.declared.directing.Directing.{Directing}
use Rattle.pt_trees.specs.Around.{around_of}
use Rattle.pt_trees.specs.Composite.{IsComposite}
use Rattle.pt_composite.proofs.composing.composite.Goals as goal

pub returns-in-By-clause-node : goal.returns-in-By-clause-node
returns-in-By-clause-node c =
    subst (λ (d : Directing). IfOk c.directed_composite.result (λ node. IsComposite d (around_of c.args.wiring) (map shown c.args.children.items) c.args.path c.args.records c.args.labels (shown_node node))) (sym c.in-By.is) c.directed_composite.ensures.node

pub returns-in-Modal-clause-node : goal.returns-in-Modal-clause-node
returns-in-Modal-clause-node c =
    subst (λ (d : Directing). IfOk c.modal_composite.result (λ node. IsComposite d (around_of c.args.wiring) (map shown c.args.children.items) c.args.path c.args.records c.args.labels (shown_node node))) (sym c.in-Modal.is) c.modal_composite.ensures.node
