use Rattle.std.proofs.Common.{map, sym, subst}
use Rattle.std.specs.Prelude.{IfOk}
use Rattle.pt_document.specs.declared.classes.Director.{Director}
use Rattle.pt_node.specs.Shown.{shown, shown_node}
use Rattle.pt_trees.specs.declared.directing.Directing.TheVariants.{By}
use Rattle.pt_trees.specs.Around.{around_of}
use Rattle.pt_trees.specs.Composite.{IsComposite}
use Rattle.pt_composite.proofs.composing.directed_composite.Goals as goal

pub returns-in-Sdf-clause-node : goal.returns-in-Sdf-clause-node
returns-in-Sdf-clause-node c =
    subst (λ (d : Director). IfOk c.sdf_composite.result (λ node. IsComposite (By d) (around_of c.args.wiring) (map shown c.args.children.items) c.args.path c.args.records c.args.labels (shown_node node))) (sym c.in-Sdf.is) c.sdf_composite.ensures.node

pub returns-in-Sr-clause-node : goal.returns-in-Sr-clause-node
returns-in-Sr-clause-node c =
    subst (λ (d : Director). IfOk c.sr_composite.result (λ node. IsComposite (By d) (around_of c.args.wiring) (map shown c.args.children.items) c.args.path c.args.records c.args.labels (shown_node node))) (sym c.in-Sr.is) c.sr_composite.ensures.node

pub returns-in-De-clause-node : goal.returns-in-De-clause-node
returns-in-De-clause-node c =
    subst (λ (d : Director). IfOk c.de_composite.result (λ node. IsComposite (By d) (around_of c.args.wiring) (map shown c.args.children.items) c.args.path c.args.records c.args.labels (shown_node node))) (sym c.in-De.is) c.de_composite.ensures.node

pub returns-in-Pn-clause-node : goal.returns-in-Pn-clause-node
returns-in-Pn-clause-node c =
    subst (λ (d : Director). IfOk c.pn_composite.result (λ node. IsComposite (By d) (around_of c.args.wiring) (map shown c.args.children.items) c.args.path c.args.records c.args.labels (shown_node node))) (sym c.in-Pn.is) c.pn_composite.ensures.node

pub returns-in-Rendezvous-clause-node : goal.returns-in-Rendezvous-clause-node
returns-in-Rendezvous-clause-node c =
    subst (λ (d : Director). IfOk c.rendezvous_composite.result (λ node. IsComposite (By d) (around_of c.args.wiring) (map shown c.args.children.items) c.args.path c.args.records c.args.labels (shown_node node))) (sym c.in-Rendezvous.is) c.rendezvous_composite.ensures.node
