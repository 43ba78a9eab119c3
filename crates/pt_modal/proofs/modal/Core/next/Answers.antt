use Rattle.std.proofs.Common.{ℕ, List, Option, None, get_or, ap, sym, ◌∙◌}
use Rattle.pt_meaning.specs.Tag.{Tag}
use Rattle.pt_meaning.specs.Modal.{lagged, wake_at, modal_wake}
use Rattle.pt_chart.specs.Machine.{Machine}
use Rattle.pt_chart.specs.Chart.{chart_of}
use Rattle.pt_modal_laws.specs.State.{wake_of}
use Rattle.pt_modal_laws.specs.ModalActs.{State}
use Rattle.pt_modal.proofs.WakeLaws.{wake-or}
use Rattle.pt_modal.proofs.modal.Core.next.Goals as goal

pub returns-in-Some : goal.returns-in-Some
returns-in-Some c =
    let i = c.self.inside in
    let chart = chart_of i.plan.machine in
    let r = c.in-Some.refinement in
    let current = c.refinement.ensures ∙ ap (λ m. chart.refinement m) c.mode.ensures in
    let wake = c.wake_of-wake.ensures ∙ ap (λ (ws : List (Option Tag)). get_or ws r None) c.deref.ensures.value ∙ wake-or i.wakes.items r in
    c.lagged.ensures
    ∙ ap (λ (w : Option Tag). lagged w c.lag.result) wake
    ∙ ap (λ (n : ℕ). lagged (wake_at i.wakes.items r) n) c.lag.ensures
    ∙ ap (λ (o : Option ℕ). modal_wake o i.modes.stays i.wakes.items) (sym c.in-Some.is ∙ current)
    ∙ ap (λ (s : State Machine). wake_of chart_of s) c.self.view_is
