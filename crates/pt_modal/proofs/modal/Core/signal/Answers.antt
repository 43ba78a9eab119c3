use Rattle.std.proofs.Common.{◌≡◌, [], ap, sym, subst, ◌∙◌}
use Rattle.pt_meaning.specs.Tag.{origin}
use Rattle.pt_meaning.specs.Streams.{Streams}
use Rattle.pt_value.specs.declared.token.Token.{Token}
use Rattle.pt_chart.specs.Machine.{Machine}
use Rattle.pt_chart.specs.Chart.{chart_of}
use Rattle.pt_modal_laws.specs.State.{Stage, Idle, at_rest}
use Rattle.pt_modal_laws.specs.ModalActs.{State}
use Rattle.pt_modal.specs.Stage.{stage_of}
use Rattle.pt_modal.specs.Seen.{seen_core}
use Rattle.pt_modal.specs.Signals.{IsSignal}
use Rattle.pt_modal.proofs.CoreLaws.{state}
use Rattle.pt_modal.proofs.SignalLaws.{is-signal}
use Rattle.pt_modal.proofs.modal.Core.signal.Goals as goal

pub returns-clause-goes : goal.returns-clause-goes
returns-clause-goes c =
    let i = c.self.inside in
    let given = c.in_ok-given.given in
    let X = c.args.inputs.now in
    let modes = c.signal.new.modes in
    let bare = c.are_none.ensures c.if-not-are_none.false in
    let idle : stage_of i.stage ≡ Idle = ap (λ (s : State Machine). s.stage) c.self.view_is ∙ c.requires.idle in
    let rests : at_rest i.plan modes i.wakes.items ≡ state i.plan modes i.wakes.items origin i.lists.inputs.items i.lists.outputs.items (stage_of i.stage) =
    ap (λ (Y : Streams Token). state i.plan modes i.wakes.items origin Y [] Idle) (sym bare.inputs)
    ∙ ap (λ (Y : Streams Token). state i.plan modes i.wakes.items origin i.lists.inputs.items Y Idle) (sym bare.outputs)
    ∙ ap (λ (g : Stage). state i.plan modes i.wakes.items origin i.lists.inputs.items i.lists.outputs.items g) (sym idle)
    in
    let says = subst (λ (s : State Machine). IsSignal chart_of given X (seen_core i) s) rests (is-signal chart_of X (seen_core i) given modes c.in_ok-given.ensures.goes) in
    subst (λ (s : State Machine). IsSignal chart_of given X s (state i.plan modes i.wakes.items origin i.lists.inputs.items i.lists.outputs.items (stage_of i.stage))) c.self.view_is says
