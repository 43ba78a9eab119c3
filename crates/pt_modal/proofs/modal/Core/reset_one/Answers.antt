use Rattle.std.proofs.Common.{List, Option, None, get_or, set, ap, ◌∙◌}
use Rattle.pt_meaning.specs.Tag.{Tag}
use Rattle.pt_chart.specs.Machine.{Machine}
use Rattle.pt_modal_laws.specs.State.{Over, after_reset}
use Rattle.pt_modal_laws.specs.ModalActs.{State}
use Rattle.pt_modal.proofs.CoreLaws.{state}
use Rattle.pt_modal.proofs.modal.Core.reset_one.Goals as goal

pub returns : goal.returns
returns c =
    let i = c.self.inside in
    let start = c.wake_of-start.ensures ∙ ap (λ (ws : List (Option Tag)). get_or ws c.args.refinement None) c.starts.ensures in
    ap (λ (ws : List (Option Tag)). state i.plan i.modes ws i.tag i.lists.inputs.items i.lists.outputs.items Over) (c.set_wake.ensures ∙ ap (λ (w : Option Tag). set i.wakes.items c.args.refinement w) start) ∙ ap (λ (s : State Machine). after_reset c.args.refinement s) c.self.view_is
