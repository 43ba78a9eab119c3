use Rattle.std.proofs.Common.{map}
use Rattle.pt_net.specs.Net.{entity_view}
use Rattle.pt_scopes.specs.Valued as valued
use Rattle.pt_inequalities.specs.Modals.{AreCharts}
use Rattle.pt_frames.specs.Views.{frames_view}
use Rattle.pt_charts.specs.Views.{chart_view}
use Rattle.pt_charts.proofs.charts.charts_of.Given as goal

abbrev pub invariant-loop-number : goal.invariant-loop-number
invariant-loop-number l = AreCharts (frames_view l.frames) (map entity_view l.entities) (map valued.entity_view l.values) l.number (map chart_view l.charts.items)
