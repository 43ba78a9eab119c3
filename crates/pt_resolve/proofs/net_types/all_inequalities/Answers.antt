use Rattle.std.proofs.Common.{length, map, sym, subst}
use Rattle.pt_net.specs.Net.{entity_view}
use Rattle.pt_scopes.specs.Valued as valued
use Rattle.pt_inequalities.specs.Frames.{frames_of}
use Rattle.pt_inequalities.specs.Modals.{AreCharts}
use Rattle.pt_charts.specs.Views.{chart_view}
use Rattle.pt_resolve.proofs.NetTypings.{charts-told}
use Rattle.pt_resolve.proofs.net_types.all_inequalities.Goals as goal

pub inequalities_with-made-requires-clause-charts : goal.inequalities_with-made-requires-clause-charts
inequalities_with-made-requires-clause-charts c =
    let net = c.args.net.now in
    let values = c.args.values.now in
    let es = map entity_view net.entities.items in
    subst (λ ds. AreCharts (frames_of net values) es (map valued.entity_view values.entities.items) (length es) (map chart_view ds)) (sym c.deref-3.ensures.value)
    (charts-told net values _ _ _ (map chart_view c.in_ok-charts.charts.items) c.requires.frames c.deref.ensures.value c.deref-2.ensures.value c.in_ok-charts.ensures)
