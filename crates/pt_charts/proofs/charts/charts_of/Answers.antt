use Rattle.std.proofs.Common.{map, sym}
use Rattle.std.specs.Prelude.{option_map}
use Rattle.pt_net.specs.Net.{entity_view}
use Rattle.pt_scopes.specs.Valued as valued
use Rattle.pt_frames.specs.Views.{frames_view}
use Rattle.pt_charts.specs.Views.{chart_view}
use Rattle.pt_inequalities.proofs.ChartLaws.{charts-more, entity-at}
use Rattle.pt_charts.proofs.charts.charts_of.Goals as goal

pub loop-number-preserved : goal.loop-number-preserved
loop-number-preserved c =
    let i = c.loop-number.number in
    let e = c.index-entities-number.result in
    charts-more (frames_view c.args.frames.now) (map entity_view c.args.entities.now) (map valued.entity_view c.args.values.now) i (entity_view e) (option_map (λ v. valued.entity_view v.now) c.values_at-own.result) (map chart_view c.loop-number.charts.items) (map chart_view c.add_chart.new.charts.items)
    (entity-at c.args.entities.now i e c.loop-number-test.true c.index-entities-number.is) (sym c.values_at-own.ensures) c.loop-number.invariant c.in_ok-add_chart.ensures
