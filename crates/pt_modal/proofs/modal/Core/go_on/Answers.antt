use Rattle.std.proofs.Common.{◌≡◌, ap, sym, subst, ◌∙◌}
use Rattle.pt_meaning.specs.Modal.{picked}
use Rattle.pt_chart.specs.Machine.{Machine}
use Rattle.pt_chart.specs.Chart.{chart_of}
use Rattle.pt_modal_laws.specs.State.{Due, in_stage}
use Rattle.pt_modal_laws.specs.ModalActs.{State}
use Rattle.pt_modal.specs.declared.first.FirstStep.{FirstStep}
use Rattle.pt_modal.specs.First.{Picks, after_first}
use Rattle.pt_modal.specs.Views.{first_view}
use Rattle.pt_modal.proofs.modal.Core.go_on.Goals as goal

pub invariant_of-self : goal.invariant_of-self
invariant_of-self c =
    let picks = subst (λ (f : FirstStep). Picks (chart_of c.args.self.now.plan.machine) c.args.self.now.inputs (first_view f)) c.in-Fires.is c.requires in
    subst (λ (s : State Machine). c.in-Fires.lent.items ≡ picked ((chart_of s.plan.machine).in_ports c.in-Fires.refinement) s.inputs) (sym c.self.view_is) picks

pub returns-in-Fires : goal.returns-in-Fires
returns-in-Fires c = ap (λ (s : State Machine). in_stage (Due c.in-Fires.refinement) s) c.self.view_is ∙ sym (ap (λ (f : FirstStep). after_first chart_of (first_view f) c.args.self.now) c.in-Fires.is)

pub returns-in-Comes : goal.returns-in-Comes
returns-in-Comes c = c.settle.ensures ∙ sym (ap (λ (f : FirstStep). after_first chart_of (first_view f) c.args.self.now) c.in-Comes.is)
