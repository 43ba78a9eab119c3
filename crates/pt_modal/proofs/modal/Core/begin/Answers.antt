use Rattle.std.proofs.Common.{ap, sym, subst, ◌∙◌}
use Rattle.pt_meaning.specs.Streams.{Streams}
use Rattle.pt_value.specs.declared.token.Token.{Token}
use Rattle.pt_chart.specs.Machine.{Machine}
use Rattle.pt_chart.specs.Chart.{chart_of}
use Rattle.pt_modal_laws.specs.State.{ModalPlan, opened, begun}
use Rattle.pt_modal_laws.specs.ModalActs.{State}
use Rattle.pt_modal.specs.Stage.{stage_of, IsAtHand}
use Rattle.pt_modal.specs.Seen.{seen_core}
use Rattle.pt_modal.specs.First.{FirstStep, Picks, kept_for, after_first}
use Rattle.pt_modal.specs.Views.{first_view}
use Rattle.pt_modal.proofs.FirstLaws.{begun-is, first-picks, kept-picks}
use Rattle.pt_modal.proofs.CoreLaws.{state}
use Rattle.pt_modal.proofs.modal.Core.begin.Goals as goal

pub invariant_of-self : goal.invariant_of-self
invariant_of-self c = subst (λ (p : ModalPlan Machine). IsAtHand c.self.inside.stage (chart_of p.machine) c.self.inside.lists.inputs.items c.self.inside.lists.lent.items) (sym c.first_step.ensures.kept) c.self.invariant

pub invariant_of-self-2 : goal.invariant_of-self-2
invariant_of-self-2 c = subst (λ (p : ModalPlan Machine). IsAtHand c.self.inside.stage (chart_of p.machine) c.self.inside.lists.inputs.items c.self.inside.lists.lent.items) (sym c.first_step.ensures.kept) c.self.invariant

pub go_on-requires : goal.go_on-requires
go_on-requires c =
    let i = c.self.inside in
    let view = first_view c.in_ok-step.step in
    let chart = chart_of i.plan.machine in
    let by-lent = subst (λ (f : FirstStep Token). Picks chart c.args.inputs.now f) (sym c.in_ok-step.ensures.first) (first-picks chart i.modes c.args.inputs.now) in
    let by-own = subst (λ (X : Streams Token). Picks chart X view) (sym c.in_ok-kept.ensures) (kept-picks chart c.args.inputs.now view by-lent) in
    let by-plan = subst (λ (p : ModalPlan Machine). Picks (chart_of p.machine) c.in_ok-kept.kept.items view) (sym c.first_step.ensures.kept) by-own in
    subst (λ (s : State Machine). Picks (chart_of s.plan.machine) s.inputs view) (sym c.open.ensures) by-plan

pub returns-clause-begun : goal.returns-clause-begun
returns-clause-begun c =
    let i = c.self.inside in
    let s = seen_core i in
    let view = first_view c.in_ok-step.step in
    let chart = chart_of i.plan.machine in
    c.go_on.ensures
    ∙ ap (λ (t : State Machine). after_first chart_of view t) c.open.ensures
    ∙ ap (λ (p : ModalPlan Machine). after_first chart_of view (opened c.args.tag c.in_ok-kept.kept.items (state p i.modes i.wakes.items i.tag i.lists.inputs.items i.lists.outputs.items (stage_of i.stage)))) c.first_step.ensures.kept
    ∙ ap (λ (X : Streams Token). after_first chart_of view (opened c.args.tag X s)) c.in_ok-kept.ensures
    ∙ ap (λ (f : FirstStep Token). after_first chart_of f (opened c.args.tag (kept_for f c.args.inputs.now) s)) c.in_ok-step.ensures.first
    ∙ begun-is chart_of c.args.tag c.args.inputs.now s
    ∙ ap (λ (t : State Machine). begun chart_of c.args.tag c.args.inputs.now t) c.self.view_is
