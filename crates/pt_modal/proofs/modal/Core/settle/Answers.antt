use Rattle.std.proofs.Common.{ap, sym, ◌∙◌}
use Rattle.pt_transitions.specs.declared.reaction.Reaction.{Reaction}
use Rattle.pt_chart.specs.Machine.{Machine}
use Rattle.pt_chart.specs.Chart.{chart_of}
use Rattle.pt_transitions.specs.Moves.{reaction_view}
use Rattle.pt_firing.specs.RunFault.{code_of}
use Rattle.pt_modal_laws.specs.State.{Over, Failed, in_stage, with_outcome}
use Rattle.pt_modal_laws.specs.ModalActs.{State}
use Rattle.pt_modal.specs.First.{after_reacted}
use Rattle.pt_modal.proofs.modal.Core.settle.Goals as goal

pub returns-in-Stays : goal.returns-in-Stays
returns-in-Stays c = ap (λ (s : State Machine). with_outcome s.modes c.in-Stays.outputs.items Over s) c.self.view_is ∙ sym (ap (λ (r : Reaction). after_reacted chart_of (reaction_view r) c.args.self.now) c.in-Stays.is)

pub returns-in-Moves : goal.returns-in-Moves
returns-in-Moves c = c.take.ensures ∙ sym (ap (λ (r : Reaction). after_reacted chart_of (reaction_view r) c.args.self.now) c.in-Moves.is)

pub returns-in-Stops : goal.returns-in-Stops
returns-in-Stops c = ap (λ (s : State Machine). in_stage (Failed (code_of c.in-Stops.fault)) s) c.self-in-Stops.view_is ∙ sym (ap (λ (r : Reaction). after_reacted chart_of (reaction_view r) c.args.self.now) c.in-Stops.is)
