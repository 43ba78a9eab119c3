use Rattle.std.proofs.Common.{Bool, List, map, subst}
use Rattle.std.proofs.lemmas.Result.{IfOk-weaker}
use Rattle.pt_chart.specs.Views.{machine_of}
use Rattle.pt_node.specs.Shown.{shown}
use Rattle.pt_node.specs.View.{Tree}
use Rattle.pt_trees.specs.Composite.{trees_of}
use Rattle.pt_trees.specs.Modal.{HasRefinementsIf}
use Rattle.pt_modal_composite.proofs.ModalLaws.{charted, uncharted}
use Rattle.pt_modal_composite.proofs.modal.charted.Goals as goal

pub returns-then-not-branch : goal.returns-then-not-branch
returns-then-not-branch c =
    let kids : List Tree = trees_of (map shown c.args.children.now) in
    let m = machine_of c.args.machine in
    uncharted c.args.inputs c.args.outputs kids m (subst (λ (b : Bool). HasRefinementsIf c.args.inputs c.args.outputs kids m b) c.if-not-branch.true c.in_ok-has_refinements.ensures)

pub returns : goal.returns
returns c =
    let kids : List Tree = trees_of (map shown c.args.children.now) in
    let m = machine_of c.args.machine in
    IfOk-weaker c.new.result _ _ (λ chart is. charted c.args.inputs c.args.outputs kids m chart (subst (λ (b : Bool). HasRefinementsIf c.args.inputs c.args.outputs kids m b) c.if-not-branch.false c.in_ok-has_refinements.ensures) is) c.new.ensures
