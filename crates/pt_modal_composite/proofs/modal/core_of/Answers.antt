use Rattle.std.proofs.Common.{List, map, ap, subst}
use Rattle.std.specs.Prelude.{Option, option_map}
use Rattle.pt_chart.specs.Machine.{Machine}
use Rattle.pt_chart.specs.Views.{machine_of}
use Rattle.pt_chart.specs.declared.written.Written.{Written}
use Rattle.pt_node.specs.Shown.{shown}
use Rattle.pt_node.specs.View.{Tree}
use Rattle.pt_trees.specs.Around.{around_of}
use Rattle.pt_trees.specs.Composite.{trees_of}
use Rattle.pt_modal_composite.specs.Machines.{IsChartRound}
use Rattle.pt_modal_composite.proofs.ModalLaws.{none-there, none-charted, starts-by}
use Rattle.pt_modal_composite.proofs.modal.core_of.Goals as goal

pub returns-in_default-clause-stands : goal.returns-in_default-clause-stands
returns-in_default-clause-stands c = none-there (around_of c.args.wiring) (trees_of (map shown c.args.children.now)) (ap (λ (o : Option Written). option_map machine_of o) c.in_default.is)

pub returns-clause-stands : goal.returns-clause-stands
returns-clause-stands c =
    let kids : List Tree = trees_of (map shown c.args.children.now) in
    let m = machine_of c.in-Some.machine in
    none-charted (around_of c.args.wiring) kids m (ap (λ (o : Option Written). option_map machine_of o) c.in-Some.is) (subst (λ (o : Option Machine). IsChartRound c.args.wiring.inputs c.args.wiring.outputs kids m o) c.in-None.is c.in_ok-chart.ensures)

pub returns-in-Some-chart-clause-core : goal.returns-in-Some-chart-clause-core
returns-in-Some-chart-clause-core c =
    let kids : List Tree = trees_of (map shown c.args.children.now) in
    let m = machine_of c.in-Some.machine in
    starts-by (around_of c.args.wiring) kids m c.in-Some-chart.chart c.in_ok-core_with-in-Some-chart.field-0 (ap (λ (o : Option Written). option_map machine_of o) c.in-Some.is) (subst (λ (o : Option Machine). IsChartRound c.args.wiring.inputs c.args.wiring.outputs kids m o) c.in-Some-chart.is c.in_ok-chart.ensures) c.in_ok-core_with-in-Some-chart.ensures
