use Rattle.std.proofs.Common.{◌≡◌, ◌∙◌, List, map, ap, subst, IfOk}
use Rattle.std.specs.Prelude.{Option}
use Rattle.pt_meaning.specs.NodeFacts.{next_of}
use Rattle.pt_meaning.specs.Tag.{Tag}
use Rattle.pt_chart.specs.Chart.{chart_of}
use Rattle.pt_chart.specs.Machine.{Machine}
use Rattle.pt_library.specs.LibraryActor.{rows}
use Rattle.pt_modal_laws.specs.State.{ModalPlan, started}
use Rattle.pt_node.specs.Shown.{shown}
use Rattle.pt_trees.specs.Composite.{trees_of}
use Rattle.pt_modal_composite.proofs.modal.core_with.Goals as goal

pub returns : goal.returns
returns c =
    let is : c.in_ok-plan.plan ≡ record { machine = c.args.chart; starts = map (next_of rows) (trees_of (map shown c.args.children.now)) } =
    c.in_ok-plan.ensures ∙ ap (λ (v : List (Option Tag)). record { machine = c.args.chart; starts = v }) c.in_ok-starts.ensures in
    subst (λ (p : ModalPlan Machine). IfOk c.new.result (λ core. core ≡ started chart_of p)) is c.new.ensures
