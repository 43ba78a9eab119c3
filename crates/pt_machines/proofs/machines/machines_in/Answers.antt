use Rattle.std.proofs.Common.{List, map, option_map, sym, ap, subst, ◌∙◌, Bor, arith}
use Rattle.std.specs.List.{list_any}
use Rattle.std.proofs.lemmas.Result.{IfOk-weaker, IfErr-weaker}
use Rattle.pt_net.specs.declared.net.Net.{Net}
use Rattle.pt_net.specs.declared.net.NetEntity.{NetEntity}
use Rattle.pt_net.specs.Net.{entity_view}
use Rattle.pt_scopes.specs.Scopes.{net_view}
use Rattle.pt_scopes.specs.Valued.{IsValued}
use Rattle.pt_scopes.specs.declared.values.Values.{Values}
use Rattle.pt_typing.specs.declared.typing.Typing.{Typing}
use Rattle.pt_typing.specs.Least.{assignment}
use Rattle.pt_inequalities.specs.ModalScopes.{is_modal}
use Rattle.pt_charts.specs.Readable.{AreReadable}
use Rattle.pt_chart.specs.Views.{machine_of}
use Rattle.pt_machine.specs.Machines.{AreMachines}
use Rattle.pt_machines.specs.Grounds.{IsNetTold}
use Rattle.pt_machines.proofs.PlainLaws.{machines-of-plain}
use Rattle.pt_machines.proofs.machines.machines_in.Goals as goal

pub returns-then-not-has_modal-clause-machines : goal.returns-then-not-has_modal-clause-machines
returns-then-not-has_modal-clause-machines c =
    let n = c.args.net.now in
    machines-of-plain n c.args.values.now (assignment c.args.typing.now) c.in_ok-none.none.items
    (ap (λ (es : List NetEntity). list_any is_modal (map entity_view es)) (sym c.as_slice-entities.ensures.value) ∙ sym c.has_modal.ensures ∙ c.if-not-has_modal.true)
    (omega (arith, c.in_ok-none.ensures.counted, c.len.ensures, n.entities.ok.0))
    c.in_ok-none.ensures.none

pub machines_on-made-requires : goal.machines_on-made-requires
machines_on-made-requires c =
    let given = c.in_ok-ground.ensures in
    let ground = c.in_ok-ground.ground in
    record {
      prepared = given.prepared;
      valued = subst (λ (n : Bor Net). IsValued (net_view n.now) ground.values.now) (sym given.net) (subst (λ (v : Bor Values). IsValued (net_view c.args.net.now) v.now) (sym given.values) c.requires.valued);
      readable = subst (λ (n : Bor Net). AreReadable n.now ground.values.now) (sym given.net) (subst (λ (v : Bor Values). AreReadable c.args.net.now v.now) (sym given.values) c.requires.readable);
    }

pub returns-clause-machines : goal.returns-clause-machines
returns-clause-machines c =
    let given = c.in_ok-ground.ensures in
    let ground = c.in_ok-ground.ground in
    IfOk-weaker c.machines_on-made.result _ _
    (λ ws h.
    subst (λ (n : Bor Net). AreMachines n.now c.args.values.now (assignment c.args.typing.now) (map (option_map machine_of) ws.items)) given.net
    (subst (λ (v : Bor Values). AreMachines ground.net.now v.now (assignment c.args.typing.now) (map (option_map machine_of) ws.items)) given.values
    (subst (λ (t : Bor Typing). AreMachines ground.net.now ground.values.now (assignment t.now) (map (option_map machine_of) ws.items)) given.typing h)))
    c.machines_on-made.ensures.machines

pub returns-clause-told : goal.returns-clause-told
returns-clause-told c = IfErr-weaker c.machines_on-made.result _ _ (λ fault h. subst (λ (n : Bor Net). IsNetTold n.now fault) c.in_ok-ground.ensures.net h) c.machines_on-made.ensures.told
