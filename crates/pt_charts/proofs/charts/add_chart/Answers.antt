use Rattle.std.proofs.Common.{map, sym, ap, ◌∙◌}
use Rattle.std.specs.Prelude.{option_map}
use Rattle.pt_scopes.specs.Valued as valued
use Rattle.pt_scopes.proofs.Turns.{view-push}
use Rattle.pt_inequalities.specs.Modals.{added}
use Rattle.pt_charts.specs.Views.{chart_view}
use Rattle.pt_inequalities.proofs.RefinementLaws.{class-modal}
use Rattle.pt_charts.proofs.charts.add_chart.Goals as goal

pub returns-in_ok-push-in-Some : goal.returns-in_ok-push-in-Some
returns-in_ok-push-in-Some c =
    let chart = c.in_ok-chart-in-Some.chart in
    added (valued.entity_view c.in-Some.values.now) (chart_view chart) (class-modal c.args.entity.now.class (sym c.is_modal.ensures ∙ c.if-not-is_modal.false)) (ap (option_map (λ v. valued.entity_view v.now)) c.in-Some.is) c.in_ok-chart-in-Some.ensures
    (ap (map chart_view) c.in_ok-push-in-Some.ensures.items ∙ view-push chart_view c.args.charts.now.items chart)
