use Rattle.std.proofs.Common.{ap, ◌∙◌}
use Rattle.pt_chart.specs.Machine.{Machine}
use Rattle.pt_chart.specs.Chart.{chart_of}
use Rattle.pt_modal_laws.specs.State.{restarted}
use Rattle.pt_modal_laws.specs.ModalActs.{State}
use Rattle.pt_modal.proofs.CoreLaws.{bare-is}
use Rattle.pt_modal.proofs.modal.Core.reset.Goals as goal

pub returns-clause-reset : goal.returns-clause-reset
returns-clause-reset c = bare-is c.self.inside.plan c.in_ok-modes.modes c.in_ok-self-inside.field-0.items c.none.result c.in_ok-modes.ensures (c.in_ok-self-inside.ensures.items ∙ c.starts.ensures) c.none.ensures ∙ ap (λ (s : State Machine). restarted chart_of s) c.self.view_is
