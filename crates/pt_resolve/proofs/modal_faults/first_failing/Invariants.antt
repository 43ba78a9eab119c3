use Rattle.std.proofs.Common.{◌≡◌, map, drop}
use Rattle.pt_typing.specs.Least.{assignment}
use Rattle.pt_resolve.specs.ModalFaults.{first_failing}
use Rattle.pt_charts.specs.Views.{chart_view}
use Rattle.pt_resolve.proofs.modal_faults.first_failing.Given as goal

abbrev pub invariant-loop-chart : goal.invariant-loop-chart
invariant-loop-chart l = first_failing (assignment l.typing) (map chart_view l.charts) ≡ first_failing (assignment l.typing) (map chart_view (drop l.chart-index l.charts))
