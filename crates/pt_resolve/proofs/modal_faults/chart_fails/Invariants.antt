use Rattle.std.proofs.Common.{◌≡◌, map, drop}
use Rattle.std.specs.List.{list_any}
use Rattle.pt_typing.specs.Least.{assignment}
use Rattle.pt_resolve.specs.ModalFaults.{transition_fails}
use Rattle.pt_charts.specs.Views.{scope_view, transition_trees}
use Rattle.pt_resolve.proofs.modal_faults.chart_fails.Given as goal

abbrev pub invariant-loop-transition : goal.invariant-loop-transition
invariant-loop-transition l =
    let fails = transition_fails (assignment l.typing) (scope_view l.chart.scope) in
    list_any fails (map transition_trees l.chart.transitions.items) ≡ list_any fails (map transition_trees (drop l.transition-index l.transition-items))
