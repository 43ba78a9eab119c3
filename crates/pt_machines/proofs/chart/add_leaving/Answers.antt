use Rattle.std.proofs.Common.{Bool, map, sym, ap, ◌∙◌}
use Rattle.pt_scopes.proofs.Turns.{view-push}
use Rattle.pt_chart.specs.Machine.{ModeTree}
use Rattle.pt_chart.specs.Views.{transition_view, mode_view}
use Rattle.pt_machines.specs.Charted.{with_leaving}
use Rattle.pt_machines.proofs.chart.add_leaving.Goals as goal

pub returns-then-is_preemptive : goal.returns-then-is_preemptive
returns-then-is_preemptive c =
    let m = c.args.mode.now in
    let grown = ap (map transition_view) c.in_ok-push.ensures.items ∙ view-push transition_view m.preemptive.items c.args.leaving.made in
    (λ j. let u : ModeTree = record { refinement = m.refinement; preemptive = grown j; others = map transition_view m.others.items } in u)
    ∙ ap (λ (b : Bool). with_leaving b (transition_view c.args.leaving.made) (mode_view m)) (sym c.if-is_preemptive.true)

pub returns : goal.returns
returns c =
    let m = c.args.mode.now in
    let grown = ap (map transition_view) c.in_ok-push-2.ensures.items ∙ view-push transition_view m.others.items c.args.leaving.made in
    (λ j. let u : ModeTree = record { refinement = m.refinement; preemptive = map transition_view m.preemptive.items; others = grown j } in u)
    ∙ ap (λ (b : Bool). with_leaving b (transition_view c.args.leaving.made) (mode_view m)) (sym c.if-is_preemptive.false)
