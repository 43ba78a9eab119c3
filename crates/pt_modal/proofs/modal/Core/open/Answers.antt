use Rattle.std.proofs.Common.{ap, ◌∙◌}
use Rattle.pt_meaning.specs.Streams.{Streams}
use Rattle.pt_value.specs.declared.token.Token.{Token}
use Rattle.pt_chart.specs.Machine.{Machine}
use Rattle.pt_modal_laws.specs.State.{Idle, opened}
use Rattle.pt_modal_laws.specs.ModalActs.{State}
use Rattle.pt_modal.proofs.CoreLaws.{state}
use Rattle.pt_modal.proofs.modal.Core.open.Goals as goal

pub returns : goal.returns
returns c =
    ap (λ (o : Streams Token). state c.self.inside.plan c.self.inside.modes c.self.inside.wakes.items c.args.tag c.args.inputs.items o Idle) c.new.ensures.items
    ∙ ap (λ (s : State Machine). opened c.args.tag c.args.inputs.items s) c.self.view_is
