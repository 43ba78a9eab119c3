use Rattle.std.proofs.Common.{List, map, ap, ◌∙◌, rules}
use Rattle.pt_document.specs.declared.job.Direction.TheVariants.{Input, Output}
use Rattle.pt_net.specs.Net.{entity_view}
use Rattle.pt_machine.specs.Numbers.{number_of}
use Rattle.pt_machine.specs.Names.{names_along}
use Rattle.pt_machine_parts.specs.Told.{IsTold}
use Rattle.pt_machine_parts.specs.Texts.{Name, texts}
use Rattle.pt_machine_parts.specs.Numbered.{numbers_view, IsStrange}
use Rattle.pt_machine_parts.specs.Own.{entity_of, kids_of, IsFaultOf}
use Rattle.pt_machine_parts.proofs.FaultLaws.{weaker}
use Rattle.pt_machine_parts.proofs.PortLaws.{foreign-port, port-map}
use Rattle.pt_machine_parts.proofs.ports.ports_of.Goals as goal

pub returns-in_err-inputs-clause-told : goal.returns-in_err-inputs-clause-told
returns-in_err-inputs-clause-told c =
    let m = c.args.modal.now in
    let kid = entity_view c.args.child.now in
    let told : IsTold (IsFaultOf m) c.in_err-inputs.field-0.0 =
    weaker (IsStrange (numbers_view m.own.ports.inputs) (names_along Input kid.ports)) (IsFaultOf m)
    (foreign-port (entity_of m) kid (kids_of m) m.is_parted Input (numbers_view m.own.ports.inputs) c.requires.own.ports.inputs c.requires.there)
    c.in_err-inputs.field-0.0 c.in_err-inputs.ensures.told in
    let h = c.from_residual.ensures in
    search (rules, told, h)

pub returns-in_err-numbers_along-clause-told : goal.returns-in_err-numbers_along-clause-told
returns-in_err-numbers_along-clause-told c =
    let m = c.args.modal.now in
    let kid = entity_view c.args.child.now in
    let told : IsTold (IsFaultOf m) c.in_err-numbers_along.field-0.0 =
    weaker (IsStrange (numbers_view m.own.ports.outputs) (names_along Output kid.ports)) (IsFaultOf m)
    (foreign-port (entity_of m) kid (kids_of m) m.is_parted Output (numbers_view m.own.ports.outputs) c.requires.own.ports.outputs c.requires.there)
    c.in_err-numbers_along.field-0.0 c.in_err-numbers_along.ensures.told in
    let h = c.from_residual-in_err-numbers_along.ensures in
    search (rules, told, h)

pub returns-clause-ok : goal.returns-clause-ok
returns-clause-ok c =
    let m = c.args.modal.now in
    let kid = entity_view c.args.child.now in
    port-map (entity_of m) kid m.own.ports c.in_ok-inputs.inputs.items c.in_ok-numbers_along.field-0.items c.in_ok-outputs.outputs.items c.requires.own.ports c.in_ok-inputs.ensures.ok c.in_ok-numbers_along.ensures.ok
    (c.in_ok-outputs.ensures ∙ ap (λ (ns : List Name). map (number_of (names_along Output kid.ports)) (texts ns)) c.deref.ensures.value)
