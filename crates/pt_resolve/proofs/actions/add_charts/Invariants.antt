use Rattle.std.proofs.Common.{◌≡◌, ◌++◌, map, drop}
use Rattle.pt_typing.specs.Views.{inequality_view}
use Rattle.pt_inequalities.specs.Modals.{of_charts}
use Rattle.pt_charts.specs.Views.{chart_view}
use Rattle.pt_resolve.proofs.actions.add_charts.Given as goal

abbrev pub invariant-loop-chart : goal.invariant-loop-chart
invariant-loop-chart l = map inequality_view l.inequalities.items ++ of_charts (map chart_view (drop l.chart-index l.charts)) ≡ map inequality_view l.fn.inequalities.items ++ of_charts (map chart_view l.charts)
