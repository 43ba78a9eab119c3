use Rattle.std.proofs.Common.{List, Option, false, ap, sym, subst, ◌∙◌}
use Rattle.pt_meaning.specs.Tag.{Tag}
use Rattle.pt_meaning.specs.Streams.{Streams}
use Rattle.pt_meaning.specs.Modal.{shown}
use Rattle.pt_value.specs.declared.token.Token.{Token}
use Rattle.pt_chart.specs.Machine.{Machine}
use Rattle.pt_chart.specs.Chart.{chart_of}
use Rattle.pt_chart.specs.Reacted.{Reacted, reacted}
use Rattle.pt_transitions.specs.Moves.{reaction_view}
use Rattle.pt_modal_laws.specs.State.{ModalPlan, with_wake, after_told}
use Rattle.pt_modal_laws.specs.ModalActs.{State}
use Rattle.pt_modal.specs.Stage.{stage_of, IsAtHand}
use Rattle.pt_modal.specs.Seen.{seen_core}
use Rattle.pt_modal.specs.First.{after_reacted}
use Rattle.pt_modal.proofs.FirstLaws.{told-is}
use Rattle.pt_modal.proofs.CoreLaws.{state}
use Rattle.pt_modal.proofs.modal.Core.told.Goals as goal

pub invariant_of-self : goal.invariant_of-self
invariant_of-self c = subst (λ (p : ModalPlan Machine). IsAtHand c.self.inside.stage (chart_of p.machine) c.self.inside.lists.inputs.items c.self.inside.lists.lent.items) (sym c.follow.ensures.kept) c.self.invariant

pub invariant_of-self-2 : goal.invariant_of-self-2
invariant_of-self-2 c = subst (λ (p : ModalPlan Machine). IsAtHand c.self.inside.stage (chart_of p.machine) c.self.inside.lists.inputs.items c.self.inside.lists.lent.items) (sym c.follow.ensures.kept) c.self.invariant

pub returns-clause-told : goal.returns-clause-told
returns-clause-told c =
    let i = c.self.inside in
    let s = seen_core i in
    let chart = chart_of i.plan.machine in
    let r = reaction_view c.in_ok-reaction.reaction in
    let given = shown (chart.out_ports c.args.refinement) c.args.outputs.now in
    c.settle.ensures
    ∙ ap (λ (p : ModalPlan Machine). after_reacted chart_of r (state p i.modes c.set_wake.new.wakes.items i.tag i.lists.inputs.items i.lists.outputs.items (stage_of i.stage))) c.follow.ensures.kept
    ∙ ap (λ (ws : List (Option Tag)). after_reacted chart_of r (state i.plan i.modes ws i.tag i.lists.inputs.items i.lists.outputs.items (stage_of i.stage))) c.set_wake.ensures
    ∙ ap (λ (q : Reacted Token). after_reacted chart_of q (with_wake c.args.refinement c.args.wake s)) c.in_ok-reaction.ensures.reaction
    ∙ ap (λ (X : Streams Token). after_reacted chart_of (reacted chart false i.modes.mode i.modes.values X given) (with_wake c.args.refinement c.args.wake s)) (c.of-inputs.ensures ∙ c.as_slice.ensures.value)
    ∙ told-is chart_of c.args.refinement c.args.outputs.now c.args.wake s
    ∙ ap (λ (t : State Machine). after_told chart_of c.args.refinement c.args.outputs.now c.args.wake t) c.self.view_is
